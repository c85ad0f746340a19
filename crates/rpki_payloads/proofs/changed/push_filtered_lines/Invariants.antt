use Rattle.std.proofs.Common.{◌≡◌, ◌++◌, take}
use Rattle.std.specs.List.{flat_map}
use Rattle.rpki_payloads.specs.Changed.{filtered_by}
use Rattle.rpki_payloads.proofs.changed.push_filtered_lines.Given as goal

abbrev pub invariant-files : goal.invariant-files
invariant-files l = l.text.items ≡ l.initial.text.items ++ flat_map (filtered_by l.vrp) (take l.file-index l.files)
