use Rattle.std.proofs.Common.{◌∙◌, sym, ap, refl, true}
use Rattle.std.specs.Prelude.{bytes_eq}
use Rattle.std.proofs.lemmas.Bool.{iff_false}
use Rattle.rpki_der.specs.Cursor.{left}
use Rattle.rpki_der.specs.TagName.{sequence}
use Rattle.rpki_der.proofs.LeafValueLaws.{leaf-shorter}
use Rattle.rpki.specs.ExtensionValue.{SpellsExtension, IsExtensionContents}
use Rattle.rpki_cert.specs.Cert.{find, is_there}
use Rattle.rpki_cert.proofs.GatherLaws.{gathers-all}
use Rattle.rpki_x509.proofs.FrameLaws.{extension-refused}
use Rattle.rpki_cert.proofs.ListedLaws.{has-on, has-found, has-none, has-end}
use Rattle.rpki_cert.proofs.read.extension_list.has_identifier.Goals as goal

pub extensions-init : goal.extensions-init
extensions-init c = gathers-all SpellsExtension (λ xs. is_there (find c.args.id.0.now xs)) (left c.args.list) (λ b. b)
    (λ b. refl)

pub extensions-smaller : goal.extensions-smaller
extensions-smaller c = leaf-shorter sequence true IsExtensionContents _ _ _ c.in-Ok.ensures.spells

pub extensions-preserved : goal.extensions-preserved
extensions-preserved c =
    let some = iff_false c.is_empty.ensures c.extensions-test.true in
    let other = ap (λ w. bytes_eq w c.args.id.0.now) (sym c.id.ensures) ∙ sym c.eq.ensures ∙ c.if-eq.false in
    has-on c.args.id.0.now _ _ _ c.in-Ok.extension some c.extensions.invariant c.in-Ok.ensures other

pub returns-then-eq : goal.returns-then-eq
returns-then-eq c =
    let some = iff_false c.is_empty.ensures c.extensions-test.true in
    let same = ap (λ w. bytes_eq w c.args.id.0.now) (sym c.id.ensures) ∙ sym c.eq.ensures ∙ c.if-eq.true in
    has-found c.args.id.0.now _ _ _ c.in-Ok.extension some c.extensions.invariant c.in-Ok.ensures same

pub returns-in-Err : goal.returns-in-Err
returns-in-Err c =
    let some = iff_false c.is_empty.ensures c.extensions-test.true in
    has-none c.args.id.0.now _ _ some c.extensions.invariant (extension-refused _ _ c.in-Err.field-0 c.in-Err.ensures)

pub returns : goal.returns
returns c = has-end c.args.id.0.now _ _ (c.is_empty.ensures.0 c.extensions-test.false) c.extensions.invariant
