use Rattle.std.proofs.Common.{◌∙◌, ap}
use Rattle.std.specs.Prelude.{List, ℕ}
use Rattle.std.proofs.lemmas.Result.{IfOk-weaker}
use Rattle.rpki_records.specs.Card.{card_in}
use Rattle.rpki_fields.specs.CardText.{card_sheet}
use Rattle.rpki_fields.proofs.card_text.card_sheet.Goals as goal

pub returns-in-Ok : goal.returns-in-Ok
returns-in-Ok c =
    let fields = c.in_ok-fields.fields.items in
    let text = c.as_slice-text.ensures ∙ c.content.ensures in
    IfOk-weaker c.found_sheet.result _ _ (λ s h. (
      fields,
      c.in_ok-fields.ensures,
      h ∙ ap (card_sheet fields c.as_slice-text.result.now) c.in-Ok.ensures
          ∙ ap (λ (t : List ℕ). card_sheet fields t (card_in t)) text,
    )) c.found_sheet.ensures

pub returns-in-Err : goal.returns-in-Err
returns-in-Err c =
    let fields = c.in_ok-fields.fields.items in
    let text = c.as_slice-text.ensures ∙ c.content.ensures in (
      fields,
      c.in_ok-fields.ensures,
      c.plain.ensures ∙ ap (card_sheet fields c.as_slice-text.result.now) c.in-Err.ensures
          ∙ ap (λ (t : List ℕ). card_sheet fields t (card_in t)) text,
    )
