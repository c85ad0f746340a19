use Rattle.std.proofs.Common.{refl, ◌∙◌}
use Rattle.std.proofs.lemmas.Result.{IfOk-weaker}
use Rattle.rpki_fields.proofs.manifest_text.manifest_sheet.Goals as goal

pub returns : goal.returns
returns c =
    IfOk-weaker c.of_list.result _ _ (λ s e. (
      c.in_ok-fields.fields.items,
      c.in_ok-own.own.items,
      rw c.object.ensures at c.in_ok-fields.ensures,
      rw c.content.ensures at c.in_ok-own.ensures,
      e ∙ rw (c.in_ok-append.ensures.items, c.in_ok-items.ensures, c.file_list.ensures.files, c.content-2.ensures) refl,
    )) c.of_list.ensures
