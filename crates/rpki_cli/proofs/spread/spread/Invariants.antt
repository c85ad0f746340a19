use Rattle.std.proofs.Common.{length, map, string_bytes}
use Rattle.std.specs.Prelude.{IfSome}
use Rattle.rpki_cli.proofs.SpreadLaws.{IsSpreadUpTo}
use Rattle.rpki_cli.proofs.spread.spread.Given as goal

abbrev pub invariant-words : goal.invariant-words
invariant-words g l =
    IfSome (g.F.Folders.listed l.folders) (λ listed. IsSpreadUpTo (listed l.ending) l.option
    (map string_bytes l.words) l.behind (map string_bytes l.rest) (map string_bytes l.all.items))

abbrev pub decreases-words : goal.decreases-words
decreases-words g l = length l.rest
