use Rattle.rpki_payloads.proofs.OrderLaws.{exact-timed, same-timed, the-set}
use Rattle.rpki_payloads.proofs.timed.sort_timed.Goals as goal

pub returns : goal.returns
returns c =
    let s = c.sort_once.ensures in the-set _ _ _ _ same-timed exact-timed s.order s.none s.all
