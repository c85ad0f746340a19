use Rattle.std.proofs.Common.{◌≡◌, drop}
use Rattle.rpkicert.specs.Pem.{from_begin}
use Rattle.rpkicert.proofs.pem.from_begin.Given as goal

-- no certificate begins in what was read
abbrev pub invariant-loop-at : goal.invariant-loop-at
invariant-loop-at l = from_begin (drop l.at l.text) ≡ from_begin l.text
