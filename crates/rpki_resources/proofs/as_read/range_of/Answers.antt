use Rattle.rpki_resources.proofs.AsReadLaws.{no-block}
use Rattle.rpki_resources.proofs.as_read.range_of.Goals as goal

pub returns-in_default-parse : goal.returns-in_default-parse
returns-in_default-parse c = λ low high is_low is_high. c.in_default-parse.ensures.value high is_high

pub returns-in-None : goal.returns-in-None
returns-in-None c = (
  c.in-Ok.min,
  c.in-Ok-parse.max,
  c.in-Ok.ensures.value,
  c.in-Ok-parse.ensures.value,
  no-block c.in-Ok.min c.in-Ok-parse.max c.from.result c.from-2.result c.from.ensures c.from-2.ensures
      c.in-Ok-parse.ensures.value.below c.in-None.ensures.none,
)
