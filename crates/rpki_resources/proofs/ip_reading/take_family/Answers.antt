use Rattle.std.proofs.Common.{false, refl}
use Rattle.rpki_der.specs.TagName.{octet_string}
use Rattle.rpki_der.proofs.LeavesLaws.{leaf-refused, leaf-accepted, leaf-malformed}
use Rattle.rpki_der.proofs.TriedLaws.{tried-refused}
use Rattle.rpki_resources.specs.Extension.{IsFamily, family_name}
use Rattle.rpki_resources.proofs.FamilyLaws.{one-family}
use Rattle.rpki_resources.proofs.ip_reading.take_family.Goals as goal

pub returns-in_err-octets : goal.returns-in_err-octets
returns-in_err-octets c =
    let e = c.in_err-octets.field-0.0 in
    tried-refused (λ x. x) family_name.spells family_name.fault _ _ e _ c.from_residual.ensures
    (leaf-refused octet_string false IsFamily _ _ _ e refl c.in_err-octets.ensures)

pub returns-in-Some : goal.returns-in-Some
returns-in-Some c =
    leaf-accepted octet_string false IsFamily _ c.in_ok-octets.octets.now _ c.in-Some.family c.in_ok-octets.ensures
    c.in-Some.ensures.some (λ v h. one-family c.in-Some.family v _ c.in-Some.ensures.some h)

pub returns-in-None : goal.returns-in-None
returns-in-None c = leaf-malformed octet_string false IsFamily _ c.in_ok-octets.octets.now _ _ _ _ c.content.ensures
    refl c.in_ok-octets.ensures c.in-None.ensures.none
