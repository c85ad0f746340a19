use Rattle.rpki_contents.proofs.AspaWritingLaws.{contents-few}
use Rattle.rpki_contents.proofs.roa_encoder.encode_max_length.Goals as goal

pub returns-in-Some-clause-short : goal.returns-in-Some-clause-short
returns-in-Some-clause-short c = c.encode.ensures.short.1 (contents-few c.from.result)
