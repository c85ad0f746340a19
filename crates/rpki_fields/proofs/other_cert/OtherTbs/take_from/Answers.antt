use Rattle.std.proofs.Common.{rules}
use Rattle.rpki_der.specs.TagName.{sequence}
use Rattle.rpki_der.proofs.FormatLaws.{takes-around}
use Rattle.rpki_fields.specs.OtherCert.{tbs_of, other_fields}
use Rattle.rpki_fields.proofs.other_cert.OtherTbs.take_from.Goals as goal

pub returns : goal.returns
returns c = takes-around tbs_of sequence other_fields _ (λ b a x h. search rules) _ _ _ c.in_sequence.ensures
