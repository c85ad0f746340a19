use Rattle.std.proofs.Common.{◌≤◌, ◌*◌, length}
use Rattle.std.specs.Io.KnownBytes.{Consumes}
use Rattle.rpkibasic.proofs.input.read_by.Given as goal

-- what was read so far: each call gave an octet or more, and 65,536 at most
abbrev pub invariant-loop : goal.invariant-loop
invariant-loop g l =
    Consumes (g.R.Read.remaining l.initial.input) (g.R.Read.remaining l.input) l.all.items
    × (l.counter ≤ length l.all.items) × (length l.all.items ≤ l.counter * 65_536)
