use Rattle.std.proofs.Common.{length}
use Rattle.std.specs.Prelude.{IfSome}
use Rattle.rpkivalid.proofs.RefusedLaws.{SayUpTo}
use Rattle.rpkivalid.proofs.rejected_point.said_by_files.Given as goal

-- this is what the files in front of the rest say
abbrev pub invariant-files : goal.invariant-files
invariant-files g l =
    IfSome (g.S.Sources.holds l.sources)
    (λ files. SayUpTo files l.folder l.strictness l.point l.files l.rest l.all.items)

abbrev pub decreases-files : goal.decreases-files
decreases-files g l = length l.rest
