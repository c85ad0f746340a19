use Rattle.std.proofs.Common.{◌≡◌, ◌++◌, take}
use Rattle.std.specs.List.{flat_map}
use Rattle.rpki_payloads.specs.Lines.{csv_line}
use Rattle.rpki_payloads.proofs.csv_lines.push_csv_lines.Given as goal

abbrev pub invariant-vrps : goal.invariant-vrps
invariant-vrps l = l.text.items ≡ l.initial.text.items ++ flat_map (csv_line l.name) (take l.vrp-index l.vrps)
