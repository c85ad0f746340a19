use Rattle.std.proofs.Common.{ap, length, refl}
use Rattle.rpki_objects.specs.SignedObject.{zero_tag}
use Rattle.rpki_objects.specs.SignedObjectView.IsFirstCertWrong.{NoSet, NoCert}
use Rattle.rpki_x509.proofs.InPlaceLaws.{contents-refused}
use Rattle.rpki_objects.proofs.signed_object_view.take_certificate.Goals as goal

pub returns-in-Err : goal.returns-in-Err
returns-in-Err c =
    let h = rw c.new.ensures at c.in-Err.ensures in NoSet (contents-refused zero_tag _ _ c.in-Err.error h) h.kind refl

pub returns-in-Ok-read : goal.returns-in-Ok-read
returns-in-Ok-read c =
    let a = rw c.new.ensures at c.in-Ok.ensures in
    let k = rw c.rest-octets.ensures at c.in-Ok-read.ensures.ok in
    (_, k.0, a, k.1, record { octets = c.rest-octets.ensures; following = ap length c.rest.ensures })

pub returns-in-Err-read : goal.returns-in-Err-read
returns-in-Err-read c =
    let a = rw c.new.ensures at c.in-Ok.ensures in
    let wrong = rw c.rest-octets.ensures at c.in-Err-read.ensures.err in
    let more = rw c.rest-octets.ensures at c.in-Err-read.ensures.none in
    NoCert _ _ _ a wrong more refl
