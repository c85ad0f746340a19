use Rattle.std.proofs.lemmas.Map.Views.{btree_set_contains_iff}
use Rattle.rpki_payloads.proofs.filter_keys.is_key.Goals as goal

pub returns : goal.returns
returns g c = λ exact.
    rw c.contains.ensures (btree_set_contains_iff g.met.T.Ord.total exact c.args.all.now c.args.key.now)
