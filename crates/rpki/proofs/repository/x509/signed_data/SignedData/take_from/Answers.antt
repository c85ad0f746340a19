use Rattle.std.proofs.Common.{rules}
use Rattle.rpki_der.specs.TagName.{sequence}
use Rattle.rpki_der.proofs.FormatLaws.{takes-around-one}
use Rattle.rpki.specs.SignedFault.{signed_parts}
use Rattle.rpki.proofs.repository.x509.signed_data.SignedData.take_from.Goals as goal

pub returns : goal.returns
returns g c =
    let algorithm = g.Alg.SignatureAlgorithm in
    takes-around-one (λ x. x) sequence (signed_parts algorithm.spells algorithm.fault) _ (λ b a x h. search rules) _ _ _
    c.in_sequence_with.ensures
