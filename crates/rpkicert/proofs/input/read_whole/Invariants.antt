use Rattle.std.proofs.Common.{◌≤◌, length}
use Rattle.std.specs.Io.KnownBytes.{Consumes}
use Rattle.rpkicert.proofs.input.read_whole.Given as goal

-- what was read so far: each call gave an octet or more
abbrev pub invariant-loop : goal.invariant-loop
invariant-loop g l =
    Consumes (g.R.Read.remaining l.initial.input) (g.R.Read.remaining l.input) l.all.items
    × (l.counter ≤ length l.all.items) × (length l.all.items ≤ 4_000_000)
