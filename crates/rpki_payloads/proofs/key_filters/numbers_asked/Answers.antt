use Rattle.std.proofs.lemmas.Map.Lookups.{exact_unsigned}
use Rattle.rpki_payloads.proofs.key_filters.numbers_asked.Goals as goal

pub returns-clause-each : goal.returns-clause-each
returns-clause-each c = λ n. (
  λ h. (c.in_ok-numbers.ensures n).0 (c.sort_once.ensures.none n h),
  λ x. c.sort_once.ensures.all exact_unsigned n ((c.in_ok-numbers.ensures n).1 x),
)
