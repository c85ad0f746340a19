use Rattle.rpki_payloads.proofs.OrderLaws.{exact-key, same-keys, the-set}
use Rattle.rpki_payloads.proofs.router_key.sort_keys.Goals as goal

pub returns : goal.returns
returns c =
    let s = c.sort_once.ensures in the-set _ _ _ _ same-keys exact-key s.order s.none s.all
