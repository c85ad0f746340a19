use Rattle.std.proofs.Common.{◌≡◌, ◌++◌, take}
use Rattle.std.specs.List.{flat_map}
use Rattle.rpkivalid.specs.Reported.{count_line}
use Rattle.rpkivalid.proofs.report.push_counts.Given as goal

abbrev pub invariant-payloads : goal.invariant-payloads
invariant-payloads l = l.report.items ≡ l.initial.report.items ++ flat_map count_line (take l.one-index l.all)
