use Rattle.std.proofs.lemmas.List.{nil_from_length}
use Rattle.std.specs.BTreeSet.{keys}
use Rattle.rpki_payloads.proofs.AskedLaws.{left-end, left-first, left-next}
use Rattle.rpki_payloads.proofs.key_filters.left_by_all.Goals as goal

pub each-init : goal.each-init
each-init c = left-first (keys c.in_ok-all.all) c.args.keys.now c.new-left.result.items c.new-left.ensures.items

pub each-preserved : goal.each-preserved
each-preserved c =
    left-next (keys c.in_ok-all.all) c.args.keys.now c.each.rest.now c.in-Some.following.now c.in-Some.key.now
    c.each.left.items c.push_left.new.keys.items c.each.invariant c.in-Some.ensures.cases.0 c.in_ok-push_left.ensures

pub returns : goal.returns
returns c =
    left-end c.args.filters.now (keys c.in_ok-all.all) c.args.keys.now c.each.rest.now c.each.left.items
    c.in_ok-all.ensures c.each.invariant (nil_from_length c.each.rest.now c.in_default.ensures.cases)
