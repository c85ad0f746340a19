use Rattle.std.proofs.Common.{rules}
use Rattle.rpki_der.specs.TagName.{sequence}
use Rattle.rpki_der.proofs.FormatLaws.{takes-around}
use Rattle.rpki_fields.specs.OtherCert.{cert_fields_of, other_cert_fields}
use Rattle.rpki_fields.proofs.other_cert.OtherCert.take_from.Goals as goal

pub returns : goal.returns
returns c =
    takes-around cert_fields_of sequence other_cert_fields _ (λ b a x h. search rules) _ _ _ c.in_sequence.ensures
