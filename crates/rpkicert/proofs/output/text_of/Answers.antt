use Rattle.std.proofs.Common.{refl, ◌∙◌}
use Rattle.std.proofs.lemmas.Result.{IfOk-weaker}
use Rattle.rpkicert.proofs.output.text_of.Goals as goal

pub returns : goal.returns
returns c =
    IfOk-weaker c.record.result _ _ (λ text e. (
      c.in_ok-sheet.sheet,
      rw (c.as_slice.ensures.value, c.as_ref.ensures) at c.in_ok-sheet.ensures,
      e ∙ rw (
        c.in_ok-all.ensures,
        c.as_slice-3.ensures.value,
        c.in_ok-file.ensures,
        c.in_ok-told.ensures,
        c.as_slice-2.ensures.value,
        c.in_ok-own.ensures,
      ) refl,
    )) c.record.ensures
