use Rattle.std.proofs.lemmas.Result.{IfOk-weaker}
use Rattle.rpki_fields.proofs.list_text.list_sheet.Goals as goal

pub returns : goal.returns
returns c =
    IfOk-weaker c.of_list.result _ _ (λ s e. (
      c.in_ok-fields.fields.items,
      c.in_ok-items.items.items,
      c.in_ok-fields.ensures,
      rw c.revoked_certs.ensures at c.in_ok-items.ensures,
      e,
    )) c.of_list.ensures
