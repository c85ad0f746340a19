use Rattle.std.proofs.Common.{◌≡◌, ◌++◌, ◌+◌}
use Rattle.std.specs.List.{flat_map, range_with_len}
use Rattle.rpki_payloads.specs.StayRtr.{stay_key}
use Rattle.rpki_payloads.proofs.stayrtr.push_numbers.Given as goal

abbrev pub invariant-numbers : goal.invariant-numbers
invariant-numbers l =
    (l.text.items ++ flat_map (stay_key l.name l.key) (range_with_len l.number l.left)
    ≡ l.initial.text.items ++ flat_map (stay_key l.name l.key) (range_with_len l.first l.count))
    × (l.number + l.left ≡ l.first + l.count)

abbrev pub decreases-numbers : goal.decreases-numbers
decreases-numbers l = l.left
