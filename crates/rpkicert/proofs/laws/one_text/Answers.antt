use Rattle.rpki_fields.specs.ObjectType.{kind_of}
use Rattle.rpki_fields.proofs.OneObjectLaws.{one-of}
use Rattle.rpkicert.proofs.OneAnswerLaws.{one-text-of}
use Rattle.rpkicert.proofs.laws.one_text.Goals as goal

pub returns-clause-object : goal.returns-clause-object
returns-clause-object c = λ octets v w g h. one-of (kind_of octets) octets v w g.is h.is

pub returns-clause-text : goal.returns-clause-text
returns-clause-text c = one-text-of
