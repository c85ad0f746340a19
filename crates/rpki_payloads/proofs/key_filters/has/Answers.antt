use Rattle.rpki_payloads.proofs.AskedLaws.{exact-asked}
use Rattle.rpki_payloads.proofs.key_filters.has.Goals as goal

pub returns : goal.returns
returns c = rw (← c.asking.ensures) (c.is_key.ensures exact-asked)
