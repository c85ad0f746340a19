use Rattle.std.proofs.Common.{refl}
use Rattle.rpki_x509.proofs.FrameLaws.{section-front}
use Rattle.rpki_attributes.specs.SignedAttributes.{attributes_tag}
use Rattle.rpki_x509.proofs.InPlaceLaws.{contents-refused}
use Rattle.rpki_attributes.proofs.AttributesViewLaws.{attributes-outside, attributes-other, attributes-taken}
use Rattle.rpki_attributes.proofs.signed_attrs_view.SignedAttrsView.take_from.Goals as goal

pub returns-in-Err : goal.returns-in-Err
returns-in-Err c =
    let h = rw c.new.ensures at c.in-Err.ensures in
    attributes-outside c.args.strict _ (contents-refused attributes_tag _ _ c.in-Err.field-0 h)

pub returns-in-Some : goal.returns-in-Some
returns-in-Some c =
    let a = rw c.new.ensures at c.in-Ok.ensures in
    attributes-taken c.args.strict _ _ _ a _
    (section-front _ a.spells.front _ _ _ _ _ a.spells.parts c.rest-octets.ensures c.rest.ensures
    c.before-in-Some.ensures refl)
    c.in-Some.ensures

pub returns-in-None : goal.returns-in-None
returns-in-None c =
    let a = rw c.new.ensures at c.in-Ok.ensures in attributes-other c.args.strict _ _ _ a c.in-None.ensures
