use Rattle.rpki_payloads.proofs.SharedLaws.{found-sharing, lowest-in, no-first, none-sharing}
use Rattle.rpki_payloads.proofs.shared.shared_with.Goals as goal

pub returns-in-Some : goal.returns-in-Some
returns-in-Some c =
    let lowest = c.in-Some.block.now.low in
    let there = lowest-in _ c.in-Some.block.now (rw c.as_slice.ensures.blocks at c.in-Some.ensures.value)
    c.as_slice.ensures.canonical in
    let both = (c.in_ok-both.ensures.intersection.numbers lowest).0 there in
    found-sharing c.args.width c.args.prefixes.now c.args.others.now lowest c.both_with_address.result
    ((c.in_ok-one.ensures lowest).0 both.0) ((c.in_ok-other.ensures lowest).0 both.1) c.both_with_address.ensures

pub returns : goal.returns
returns c =
    none-sharing c.args.width c.args.prefixes.now c.args.others.now c.in_ok-one.one c.in_ok-other.other
    c.in_ok-both.both c.in_ok-one.ensures c.in_ok-other.ensures c.in_ok-both.ensures.intersection.numbers
    (no-first _ (rw c.as_slice.ensures.blocks at c.in-None.ensures.value))
