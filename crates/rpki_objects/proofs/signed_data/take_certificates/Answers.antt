use Rattle.std.proofs.Common.{rules}
use Rattle.rpki_der.proofs.FormatLaws.{takes-around-one}
use Rattle.rpki_objects.specs.SignedObject.{zero_tag, certificate}
use Rattle.rpki_objects.proofs.signed_data.take_certificates.Goals as goal

pub returns : goal.returns
returns g c =
    takes-around-one (λ x. x) zero_tag certificate _ (λ b a x h. search rules) _ _ _
    (rw c.new.ensures at c.in_constructed_with.ensures)
