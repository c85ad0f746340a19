use Rattle.rpki_payloads.proofs.GatheredLaws.{has-more}
use Rattle.rpki_payloads.proofs.filter_keys.insert_key.Goals as goal

pub returns : goal.returns
returns g c = λ exact.
    has-more g.met.T.Ord.total exact c.args.all.now c.insert.new.self c.args.key c.in_ok-insert.ensures.updates
