use Rattle.std.proofs.Common.{length}
use Rattle.rpki_validation.specs.Snapshot.{Where}
use Rattle.rpki_validation.proofs.FilesLaws.{IsUpTo}
use Rattle.rpki_validation.proofs.point.files_of.Given as goal

-- these octets are those of the files in front of the rest
abbrev pub invariant-files : goal.invariant-files
invariant-files g l =
    Where (g.S.Snapshot.holds l.snapshot)
    (λ published. IsUpTo published (g.P.Provider.sha256_of l.provider) l.folder l.files l.rest l.all.items)

abbrev pub decreases-files : goal.decreases-files
decreases-files g l = length l.rest
