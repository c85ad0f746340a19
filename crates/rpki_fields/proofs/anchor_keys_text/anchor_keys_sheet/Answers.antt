use Rattle.std.proofs.Common.{◌∙◌, ap}
use Rattle.std.proofs.lemmas.Result.{IfOk-weaker}
use Rattle.rpki_records.specs.AnchorKeys.{tak}
use Rattle.rpki_fields.specs.RecordText.{anchor_keys_sheet}
use Rattle.rpki_fields.proofs.anchor_keys_text.anchor_keys_sheet.Goals as goal

pub returns-in-Ok : goal.returns-in-Ok
returns-in-Ok c =
    let fields = c.in_ok-fields.fields.items in
    let found = c.in-Ok.ensures ∙ ap tak (c.as_slice.ensures ∙ c.content.ensures) in
    IfOk-weaker c.found_sheet.result _ _ (λ s h. (
      fields,
      c.in_ok-fields.ensures,
      h ∙ ap (anchor_keys_sheet fields) found,
    )) c.found_sheet.ensures

pub returns-in-Err : goal.returns-in-Err
returns-in-Err c =
    let fields = c.in_ok-fields.fields.items in
    let found = c.in-Err.ensures ∙ ap tak (c.as_slice.ensures ∙ c.content.ensures) in (
      fields,
      c.in_ok-fields.ensures,
      c.plain.ensures ∙ ap (anchor_keys_sheet fields) found,
    )
