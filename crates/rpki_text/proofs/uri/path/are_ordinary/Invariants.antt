use Rattle.std.proofs.Common.{◌≡◌, ◌≤◌, take}
use Rattle.rpki_text.proofs.OrdinaryLaws.{are_ordinary}
use Rattle.rpki_text.proofs.uri.path.are_ordinary.Given as goal

abbrev pub invariant-loop-i : goal.invariant-loop-i
invariant-loop-i l = (1 ≤ l.i) × (l.are ≡ are_ordinary 47 (take l.i l.path))
