use Rattle.std.proofs.Common.{◌<◌, ◌++◌, ◌∷◌, List, [], length, take, map, arith, ap, sym, ◌∙◌}
use Rattle.std.proofs.lemmas.List.{map_more}
use Rattle.rpki.specs.ExtensionValue.{ExtensionParts}
use Rattle.rpki_fields.specs.Field.{FieldParts}
use Rattle.rpki_fields.specs.CertText.{extension_field}
use Rattle.rpki_fields.proofs.cert_text.extensions.Goals as goal

pub extensions-preserved : goal.extensions-preserved
extensions-preserved c =
    let xs = c.args.all.now in
    let i = c.extensions.extension-index in
    let x = c.extension-item.result in
    let lt : i < length xs = omega arith in
    c.in_ok-push_extension.ensures
    ∙ ap (λ (w : List FieldParts). w ++ extension_field x ∷ []) c.extensions.invariant
    ∙ ap (λ (y : ExtensionParts). map extension_field (take i xs) ++ extension_field y ∷ []) c.extension-item.is
    ∙ sym (map_more extension_field xs i x lt)
