use Rattle.std.proofs.Common.{◌≡◌, ◌++◌, take}
use Rattle.std.specs.List.{flat_map}
use Rattle.rpki_payloads.specs.Changed.{filtered_lines}
use Rattle.rpki_payloads.proofs.changed.push_all_filtered.Given as goal

abbrev pub invariant-vrps : goal.invariant-vrps
invariant-vrps l =
    l.text.items ≡ l.initial.text.items ++ flat_map (filtered_lines l.route l.files) (take l.vrp-index l.vrps)
