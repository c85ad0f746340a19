use Rattle.std.proofs.Common.{◌≡◌, ◌-◌, length}
use Rattle.rpki_der.specs.MembersLeft.{numbers_left}
use Rattle.rpki_der.proofs.members.MembersIterator.next.Given as goal

abbrev pub invariant-entries : goal.invariant-entries
invariant-entries l = numbers_left l.self ≡ numbers_left l.fn.self

abbrev pub decreases-entries : goal.decreases-entries
decreases-entries l = length l.self.entries.now - l.self.next
