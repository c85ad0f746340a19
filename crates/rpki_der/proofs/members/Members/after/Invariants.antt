use Rattle.std.proofs.Common.{◌-◌, ◌≡◌, ◌+◌, ◌≤◌, length, drop}
use Rattle.rpki_der.specs.IndexMembers.{numbers_from}
use Rattle.rpki_der.proofs.members.Members.after.Given as goal

abbrev pub invariant-halves : goal.invariant-halves
invariant-halves l =
    let m = l.self in
    (l.number + 1 ≤ l.low) × (l.high ≤ length m.entries.now)
    × (numbers_from (l.number + 1) m.parent (drop (l.number + 1) m.entries.now) ≡ numbers_from l.low m.parent
    (drop l.low m.entries.now))

abbrev pub decreases-halves : goal.decreases-halves
decreases-halves l = l.high - l.low
