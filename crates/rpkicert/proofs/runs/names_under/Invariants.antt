use Rattle.std.proofs.Common.{map, take, string_bytes}
use Rattle.rpkicert.specs.Under.{AreUnder}
use Rattle.rpkicert.proofs.runs.names_under.Given as goal

abbrev pub invariant-files : goal.invariant-files
invariant-files g l =
    AreUnder (g.S.Sources.lists l.sources) (map (λ file. file.now) (take l.file-index l.files))
    (map string_bytes l.names.items)
