use Rattle.rpki_payloads.proofs.FilterKeyLaws.{exact-filter-key}
use Rattle.rpki_payloads.proofs.filter_keys.FilterKeys.has.Goals as goal

pub returns : goal.returns
returns c = c.is_key.ensures exact-filter-key
