use Rattle.std.proofs.Common.{◌≡◌, ◌++◌, take}
use Rattle.std.specs.List.{flat_map}
use Rattle.rpki_payloads.specs.Alone.{alone_line}
use Rattle.rpki_payloads.proofs.alone.push_all_alone.Given as goal

abbrev pub invariant-vrps : goal.invariant-vrps
invariant-vrps l = l.text.items ≡ l.initial.text.items ++ flat_map (alone_line l.end) (take l.vrp-index l.vrps)
