use Rattle.std.proofs.Common.{map, take}
use Rattle.rpkicert.specs.Run.{Sees}
use Rattle.rpkicert.specs.RequirementsView.{terms_of}
use Rattle.rpkicert.proofs.RunLaws.{HaveSeen}
use Rattle.rpkicert.proofs.runs.show_each.Given as goal

abbrev pub invariant-files : goal.invariant-files
invariant-files g l =
    g.M.Machine.knows l.initial.machine
    → g.M.Machine.knows l.machine
    × HaveSeen (Sees (g.S.Sources.holds l.sources) l.request.check l.request.form (terms_of l.terms))
    (map (λ file. file.now) (take l.file-index l.request.files.now))
    (g.M.Machine.world l.initial.machine) (g.M.Machine.world l.machine) l.worst
