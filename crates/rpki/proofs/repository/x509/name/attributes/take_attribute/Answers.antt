use Rattle.std.proofs.Common.{refl}
use Rattle.rpki_der.specs.Cursor.{left}
use Rattle.rpki.proofs.NameAttributeLaws.{no-attribute, no-identifier, no-value, a-view}
use Rattle.rpki.proofs.repository.x509.name.attributes.take_attribute.Goals as goal

pub returns-clause-some : goal.returns-clause-some
returns-clause-some c =
    a-view (left c.args.cons.now) _ _ c.in-Ok.ensures _ _ c.in-Ok-take_oid.ensures _ _ _ c.in-Ok-take_value.ensures
    refl c.rest-value.ensures refl c.form_and_octets-constructed.ensures.form
    c.form_and_octets-constructed.ensures.octets

pub returns-in-Err-clause-none : goal.returns-in-Err-clause-none
returns-in-Err-clause-none c = no-attribute (left c.args.cons.now) _ _ c.in-Err.ensures

pub returns-in-Err-take_oid-clause-none : goal.returns-in-Err-take_oid-clause-none
returns-in-Err-take_oid-clause-none c =
    no-identifier (left c.args.cons.now) _ _ c.in-Ok.ensures _ _ c.in-Err-take_oid.ensures

pub returns-in-Err-take_value-clause-none : goal.returns-in-Err-take_value-clause-none
returns-in-Err-take_value-clause-none c =
    no-value (left c.args.cons.now) _ _ c.in-Ok.ensures _ _ c.in-Ok-take_oid.ensures _ _ c.in-Err-take_value.ensures
