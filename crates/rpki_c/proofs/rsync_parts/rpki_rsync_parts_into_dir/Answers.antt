use Rattle.std.proofs.Common.{inr, ap, ◌∙◌}
use Rattle.rpki_text.specs.Segments.{with_slash}
use Rattle.rpki_text.proofs.JoinLaws.{cut-dir}
use Rattle.rpki_c.proofs.PlaceLaws.{parts-cut, end-parts}
use Rattle.rpki_c.proofs.rsync_parts.rpki_rsync_parts_into_dir.Goals as goal

pub returns : goal.returns
returns c =
    let laid = c.in-Some.ensures.laid_out in
    inr (
      laid,
      λ a.
          let text = c.as_dir.ensures (c.in-Some.ensures.own a) ∙ ap with_slash c.in-Some.ensures.text in
          let cut = cut-dir c.args.text.now _ _ (parts-cut a) in
          (rw text at c.store_joined.ensures, end-parts laid cut),
    )
