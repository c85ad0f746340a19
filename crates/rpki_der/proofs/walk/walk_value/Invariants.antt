use Rattle.std.proofs.Common.{◌+◌, ◌-◌, ◌*◌, ◌≤◌, length, [], ◌∷◌, ◌++◌}
use Rattle.rpki_der.proofs.IndexingLaws.{IsWalking, ReadEnd}
use Rattle.rpki_der.proofs.walk.walk_value.Given as goal

abbrev pub invariant-values : goal.invariant-values
invariant-values l = record {
  low : l.place ≤ length l.octets;
  raised : l.fn.steps ≤ l.steps;
  half : 2 * (l.steps - l.fn.steps) ≤ l.place;
  ending : ReadEnd l.keep l.before l.entries.items l.innermost l.end;
  within : IsWalking l.keep l.before l.fn.entries.items l.octets (l.open.items ++ l.innermost ∷ []) l.entries.items
      l.place (l.steps - l.fn.steps);
}

abbrev pub decreases-values : goal.decreases-values
decreases-values l = (length l.octets - l.place) + length l.open.items
