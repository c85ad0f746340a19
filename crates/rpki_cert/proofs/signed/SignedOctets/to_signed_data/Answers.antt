use Rattle.std.proofs.Common.{◌∙◌, Bool, ap, refl, sym}
use Rattle.rpki_der.specs.Members.{SpellsValue}
use Rattle.rpki_der.proofs.ComposedLaws.{spelled-whole}
use Rattle.rpki.specs.Signature.{SignatureParts}
use Rattle.rpki.specs.SignedData.{parts_of}
use Rattle.rpki_cert.proofs.KeptLaws.{signed-is}
use Rattle.rpki_cert.proofs.signed.SignedOctets.to_signed_data.Goals as goal

pub returns-in-Ok : goal.returns-in-Ok
returns-in-Ok c =
    let a = rw c.new.ensures at c.in-Ok.ensures.reads in
    let one = spelled-whole SpellsValue _ _ (record { same = refl; value = c.self.invariant }) in
    let own = c.self.inside.signature in
    c.new-in-Ok.ensures ∙ signed-is (parts_of c.self.inside.signed own.algorithm own.value) _ _ _
    (sym (a.only _ _ one).0) (ap (λ (s : SignatureParts Bool). s.algorithm) c.in_ok-signature.ensures)
    (ap (λ (s : SignatureParts Bool). s.value) c.in_ok-signature.ensures) ∙ c.self.view_is
