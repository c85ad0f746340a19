use Rattle.std.proofs.lemmas.Result.{IfOk-weaker}
use Rattle.rpki_fields.proofs.object.own_sheet.Goals as goal

pub returns : goal.returns
returns c =
    IfOk-weaker c.with_listing.result _ _ (λ s e. (
      c.in_ok-fields.fields.items,
      c.in_ok-items.items.items,
      c.in_ok-fields.ensures,
      c.in_ok-items.ensures,
      rw c.plain.ensures at e,
    )) c.with_listing.ensures
