use Rattle.std.proofs.Common.{length}
use Rattle.rpki_der.specs.Written.{AppendsAllBut}
use Rattle.rpki_der.proofs.encode.whole.write_whole.Given as goal

abbrev pub invariant-loop-rest : goal.invariant-loop-rest
invariant-loop-rest g l =
    AppendsAllBut (g.W.Write.contents l.initial.out) (g.W.Write.contents l.out) l.octets l.rest

abbrev pub decreases-loop-rest : goal.decreases-loop-rest
decreases-loop-rest g l = length l.rest
