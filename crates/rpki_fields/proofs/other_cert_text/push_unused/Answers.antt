use Rattle.std.proofs.Common.{sym, ◌∙◌}
use Rattle.std.proofs.lemmas.Result.{on_ok_weaker}
use Rattle.rpki_fields.proofs.OtherSizeLaws.{with-key}
use Rattle.rpki_fields.proofs.other_cert_text.push_unused.Goals as goal

pub returns-in_ok-extend_from_slice : goal.returns-in_ok-extend_from_slice
returns-in_ok-extend_from_slice c =
    let known = rw c.algorithm.ensures at (sym c.signs_rpki.ensures ∙ c.if-signs_rpki.true) in
    let h = rw (
      c.in_ok-extend_from_slice.ensures.items,
      c.algorithm-then-signs_rpki.ensures,
      c.key.ensures,
      c.tbs.ensures,
    ) at c.push_key_name.ensures in
    on_ok_weaker c.push_key_name.result (λ k. k ∙ with-key c.args.cert.now c.args.text.now.items known) h
