use Rattle.std.proofs.Common.{take}
use Rattle.rpkivalid.specs.Excepted.{AreFilesIn}
use Rattle.rpkivalid.proofs.excepted.all_exceptions.Given as goal

-- these exceptions are in the files in front
abbrev pub invariant-files : goal.invariant-files
invariant-files g l = AreFilesIn (g.S.Sources.holds l.sources) (take l.file-index l.files) l.all.items
