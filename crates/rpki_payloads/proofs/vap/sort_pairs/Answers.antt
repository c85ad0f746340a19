use Rattle.rpki_payloads.proofs.OrderLaws.{exact-pair, same-pairs, the-set}
use Rattle.rpki_payloads.proofs.vap.sort_pairs.Goals as goal

pub returns : goal.returns
returns c =
    let s = c.sort_once.ensures in the-set _ _ _ _ same-pairs exact-pair s.order s.none s.all
