use Rattle.std.proofs.Common.{refl, ◌∙◌}
use Rattle.std.proofs.lemmas.Result.{IfOk-weaker}
use Rattle.rpki_fields.proofs.provider_text.provider_sheet.Goals as goal

pub returns : goal.returns
returns c =
    IfOk-weaker c.of_list.result _ _ (λ s e. (
      c.in_ok-fields.fields.items,
      rw c.object.ensures at c.in_ok-fields.ensures,
      e ∙ rw (
        c.in_ok-push_number.ensures,
        c.from.ensures,
        c.in_ok-items.ensures,
        c.providers.ensures.providers,
        c.customer_as.ensures,
        c.content-content.ensures,
      ) refl,
    )) c.of_list.ensures
