use Rattle.std.proofs.lemmas.List.{nil_from_length}
use Rattle.std.specs.BTreeSet.{keys}
use Rattle.rpki_payloads.specs.Asked.{asked_by}
use Rattle.rpki_payloads.proofs.AskedLaws.{exact-asked}
use Rattle.rpki_payloads.proofs.GatheredLaws.{gathered-all, gathered-first, gathered-next}
use Rattle.rpki_payloads.proofs.key_filters.asked_of.Goals as goal

pub filters-init : goal.filters-init
filters-init c = gathered-first asked_by c.args.filters.now (keys c.new-all.result) c.new-all.ensures.empty

pub filters-preserved : goal.filters-preserved
filters-preserved c =
    gathered-next asked_by c.args.filters.now c.filters.rest.now c.in-Some.following.now c.in-Some.filter.now
    c.asked_by.result (keys c.filters.all) (keys c.insert_key.new.all) c.filters.invariant
    c.in-Some.ensures.cases.0 c.asked_by.ensures (c.in_ok-insert_key.ensures exact-asked)

pub returns : goal.returns
returns c =
    gathered-all asked_by c.args.filters.now c.filters.rest.now (keys c.filters.all) c.filters.invariant
    (nil_from_length c.filters.rest.now c.in_default.ensures.cases)
