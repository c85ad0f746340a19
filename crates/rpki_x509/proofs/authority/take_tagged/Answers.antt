use Rattle.std.proofs.Common.{false, refl, sym, ◌∙◌}
use Rattle.rpki_der.proofs.LeavesLaws.{leaf-refused, leaf-accepted, leaf-malformed}
use Rattle.rpki_der.proofs.TriedLaws.{tried-refused}
use Rattle.rpki.specs.KeyIdentifier.{IsKeyIdentifier}
use Rattle.rpki_x509.specs.Authority.{identifier_tag, SpellsTagged}
use Rattle.rpki_x509.proofs.authority.take_tagged.Goals as goal
use Rattle.rpki_x509.specs.Authority.{tagged_identifier}

pub returns-in_err-octets : goal.returns-in_err-octets
returns-in_err-octets c =
    let h = rw c.new.ensures at c.in_err-octets.ensures in
    let e = c.in_err-octets.field-0.0 in
    tried-refused (λ k. k) SpellsTagged tagged_identifier.fault _ _ e _ c.from_residual.ensures
    (leaf-refused identifier_tag false IsKeyIdentifier _ _ _ e refl h)

pub returns-in-Ok : goal.returns-in-Ok
returns-in-Ok c =
    let a = rw c.new.ensures at c.in_ok-octets.ensures in
    let is = c.in-Ok.ensures in
    leaf-accepted identifier_tag false IsKeyIdentifier _ c.in_ok-octets.octets.now _ c.in-Ok.identifier a is
    (λ w h. sym h.same ∙ is.same)

pub returns-in-Err : goal.returns-in-Err
returns-in-Err c =
    let a = rw c.new.ensures at c.in_ok-octets.ensures in
    leaf-malformed identifier_tag false IsKeyIdentifier _ c.in_ok-octets.octets.now _ _ _ _ c.content.ensures refl a
    (λ v h. c.in-Err.ensures h.size)
