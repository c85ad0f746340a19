use Rattle.std.proofs.Common.{length}
use Rattle.rpki_der.specs.Written.{AppendsAllBut}
use Rattle.rpki_contents.specs.EncodedAspa.{numbers_octets}
use Rattle.rpki_contents.proofs.aspa_encoder.write_numbers.Given as goal

-- all but the remaining numbers is written
abbrev pub invariant-each : goal.invariant-each
invariant-each g l = AppendsAllBut (g.W.Write.contents l.initial.out) (g.W.Write.contents l.out)
    (numbers_octets l.numbers) (numbers_octets l.rest)

abbrev pub decreases-each : goal.decreases-each
decreases-each g l = length l.rest
