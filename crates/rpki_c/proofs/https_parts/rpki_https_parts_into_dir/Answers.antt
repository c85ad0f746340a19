use Rattle.std.proofs.Common.{inr, ap, ◌∙◌}
use Rattle.rpki_text.specs.HttpsText.{https_into_dir}
use Rattle.rpki_text.proofs.HttpsPartLaws.{https_dir-cut}
use Rattle.rpki_c.proofs.PlaceLaws.{https-cut, https-end-parts}
use Rattle.rpki_c.proofs.https_parts.rpki_https_parts_into_dir.Goals as goal

pub returns : goal.returns
returns c =
    let laid = c.in-Some.ensures.laid_out in
    inr (
      laid,
      λ a.
          let text = c.as_dir.ensures (c.in-Some.ensures.own a) ∙ ap https_into_dir c.in-Some.ensures.text in
          let cut = https_dir-cut c.args.text.now _ (https-cut laid a) in
          (rw text at c.store_joined.ensures, https-end-parts laid cut),
    )
