use Rattle.std.proofs.Common.{inl, inr, ap, ◌∙◌}
use Rattle.rpki_text.specs.RsyncText.{joined}
use Rattle.rpki_text.proofs.JoinLaws.{cut-joined-any}
use Rattle.rpki_c.proofs.PlaceLaws.{parts-cut, end-parts}
use Rattle.rpki_c.proofs.rsync_parts.rpki_rsync_parts_join.Goals as goal

pub returns-in-Ok : goal.returns-in-Ok
returns-in-Ok c =
    let path = c.args.path.now in
    let laid = c.in-Some.ensures.laid_out in
    inr (
      laid,
      λ a.
          let own = c.in-Some.ensures.own a in
          let passes = c.in-Ok.ensures.ok own in
          let ok = rw c.in-Some.ensures.text at passes in
          let text = c.in-Ok.ensures.text own ∙ ap (λ x. joined x path) c.in-Some.ensures.text in
          inl (
            ok,
            rw text at c.store_joined.ensures,
            end-parts laid (cut-joined-any c.args.base.now _ _ (parts-cut a) path ok),
          ),
    )
