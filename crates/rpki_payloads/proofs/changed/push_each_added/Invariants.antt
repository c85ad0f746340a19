use Rattle.std.proofs.Common.{◌≡◌, ◌++◌, take}
use Rattle.std.specs.List.{flat_map}
use Rattle.rpki_payloads.specs.Changed.{added_line}
use Rattle.rpki_payloads.proofs.changed.push_each_added.Given as goal

abbrev pub invariant-vrps : goal.invariant-vrps
invariant-vrps l =
    l.text.items ≡ l.initial.text.items ++ flat_map (added_line l.route l.name) (take l.vrp-index l.vrps)
