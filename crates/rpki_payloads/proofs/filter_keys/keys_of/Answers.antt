use Rattle.std.proofs.lemmas.List.{nil_from_length}
use Rattle.std.specs.BTreeSet.{keys}
use Rattle.rpki_payloads.specs.FilterKeys.{key_of}
use Rattle.rpki_payloads.proofs.FilterKeyLaws.{exact-filter-key}
use Rattle.rpki_payloads.proofs.GatheredLaws.{gathered-all, gathered-first, gathered-next}
use Rattle.rpki_payloads.proofs.filter_keys.keys_of.Goals as goal

pub filters-init : goal.filters-init
filters-init c = gathered-first key_of c.args.filters.now (keys c.new-all.result) c.new-all.ensures.empty

pub filters-preserved : goal.filters-preserved
filters-preserved c =
    gathered-next key_of c.args.filters.now c.filters.rest.now c.in-Some.following.now c.in-Some.filter.now
    c.key_of.result (keys c.filters.all) (keys c.insert_key.new.all) c.filters.invariant
    c.in-Some.ensures.cases.0 c.key_of.ensures (c.in_ok-insert_key.ensures exact-filter-key)

pub returns : goal.returns
returns c =
    gathered-all key_of c.args.filters.now c.filters.rest.now (keys c.filters.all) c.filters.invariant
    (nil_from_length c.filters.rest.now c.in_default.ensures.cases)
