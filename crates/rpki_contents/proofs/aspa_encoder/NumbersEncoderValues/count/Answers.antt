use Rattle.rpki_contents.proofs.AspaWritingLaws.{numbers-values}
use Rattle.rpki_contents.proofs.aspa_encoder.NumbersEncoderValues.count.Goals as goal

pub returns : goal.returns
returns c = rw (← c.self.view_is) (numbers-values c.self.inside.numbers.now)
