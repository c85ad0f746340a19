use Rattle.std.proofs.lemmas.Result.{IfOk-weaker}
use Rattle.rpki_fields.proofs.object.cert_sheet.Goals as goal

pub returns : goal.returns
returns c =
    IfOk-weaker c.cert_access.result _ _ (λ s h. (
      c.in_ok-sheet.sheet,
      rw c.tbs.ensures at c.in_ok-sheet.ensures,
      rw c.tbs-2.ensures at h,
    )) c.cert_access.ensures
