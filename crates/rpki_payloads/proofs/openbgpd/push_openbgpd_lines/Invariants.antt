use Rattle.std.proofs.Common.{◌≡◌, ◌++◌, take}
use Rattle.std.specs.List.{flat_map}
use Rattle.rpki_payloads.specs.Lines.{openbgpd_line}
use Rattle.rpki_payloads.proofs.openbgpd.push_openbgpd_lines.Given as goal

abbrev pub invariant-all : goal.invariant-all
invariant-all l = l.text.items ≡ l.initial.text.items ++ flat_map openbgpd_line (take l.timed-index l.all)
