use Rattle.std.proofs.Common.{◌+◌, ◌%◌, ◌^◌, ℕ}
use Rattle.rpki_c.specs.Front.{Closes}
use Rattle.rpki_c.proofs.index.innermost.Given as goal

abbrev pub invariant-ended : goal.invariant-ended
invariant-ended l = record {
  some : (q : ℕ) × Closes l.entries l.place l.parent q;
  all : (q : ℕ) → Closes l.entries l.place l.number q → Closes l.entries l.place l.parent q;
}

-- SIZE_MAX comes last
abbrev pub decreases-ended : goal.decreases-ended
decreases-ended l = (l.parent + 1) % 2 ^ 64
