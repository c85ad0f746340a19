use Rattle.std.proofs.Common.{◌≡◌, ◌++◌, take}
use Rattle.std.specs.List.{flat_map}
use Rattle.rpkivalid.specs.Reported.{report_line}
use Rattle.rpkivalid.proofs.report.push_rejections.Given as goal

abbrev pub invariant-rejections : goal.invariant-rejections
invariant-rejections l =
    l.report.items ≡ l.initial.report.items ++ flat_map report_line (take l.rejection-index l.rejections)
