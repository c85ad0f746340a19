use Rattle.rpki_payloads.proofs.OrderLaws.{exact-vrp, same-cmp, the-set}
use Rattle.rpki_payloads.proofs.order.sort_vrps.Goals as goal

pub returns : goal.returns
returns c =
    let s = c.sort_once.ensures in the-set _ _ _ _ same-cmp exact-vrp s.order s.none s.all
