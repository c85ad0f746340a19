use Rattle.std.proofs.Common.{true}
use Rattle.std.proofs.lemmas.Bool.{iff_false}
use Rattle.rpki_der.specs.TagName.{sequence}
use Rattle.rpki_der.proofs.LeafValueLaws.{leaf-shorter}
use Rattle.rpki.specs.ExtensionValue.{IsExtensionContents}
use Rattle.rpki_x509.proofs.FrameLaws.{extension-refused}
use Rattle.rpki_cert.proofs.ListedLaws.{unique-on, unique-twice, unique-none, unique-end}
use Rattle.rpki_cert.proofs.read.extension_list.are_unique.Goals as goal

pub extensions-smaller : goal.extensions-smaller
extensions-smaller c = leaf-shorter sequence true IsExtensionContents _ _ _ c.in-Ok.ensures.spells

pub returns-then-has_identifier : goal.returns-then-has_identifier
returns-then-has_identifier c =
    let some = iff_false c.is_empty.ensures c.extensions-test.true in
    unique-twice _ _ _ c.in-Ok.extension some c.extensions.invariant c.in-Ok.ensures
    (rw (c.id.ensures, c.if-has_identifier.true) at c.has_identifier.ensures)

pub extensions-preserved : goal.extensions-preserved
extensions-preserved c =
    let some = iff_false c.is_empty.ensures c.extensions-test.true in
    unique-on _ _ _ c.in-Ok.extension some c.extensions.invariant c.in-Ok.ensures
    (rw (c.id.ensures, c.if-has_identifier.false) at c.has_identifier.ensures)

pub returns-in-Err : goal.returns-in-Err
returns-in-Err c =
    let some = iff_false c.is_empty.ensures c.extensions-test.true in
    unique-none _ _ some c.extensions.invariant (extension-refused _ _ c.in-Err.field-0 c.in-Err.ensures)

pub returns : goal.returns
returns c = unique-end _ _ (c.is_empty.ensures.0 c.extensions-test.false) c.extensions.invariant
