use Rattle.std.proofs.Common.{◌∙◌, ap, subst}
use Rattle.std.proofs.lemmas.Result.{IfOk-weaker}
use Rattle.rpki_records.specs.Checklist.{checklist}
use Rattle.rpki_fields.specs.RecordText.{ShowsChecklist}
use Rattle.rpki_fields.proofs.checklist_text.checklist_sheet.Goals as goal

pub returns-in-Ok : goal.returns-in-Ok
returns-in-Ok c =
    let fields = c.in_ok-fields.fields.items in
    let found = c.in-Ok.ensures ∙ ap checklist (c.as_slice.ensures ∙ c.content.ensures) in
    IfOk-weaker c.found_sheet.result _ _ (λ s h. (
      fields,
      c.in_ok-fields.ensures,
      subst (λ r. ShowsChecklist fields r s) found h,
    )) c.found_sheet.ensures

pub returns-in-Err : goal.returns-in-Err
returns-in-Err c =
    let fields = c.in_ok-fields.fields.items in
    let found = c.in-Err.ensures ∙ ap checklist (c.as_slice.ensures ∙ c.content.ensures) in (
      fields,
      c.in_ok-fields.ensures,
      subst (λ r. ShowsChecklist fields r c.plain.result) found c.plain.ensures,
    )
