use Rattle.std.proofs.Common.{◌-◌, ◌+◌, ◌/◌, ◌≡◌, ℕ, Option, drop, arith, subst}
use Rattle.rpki_der.specs.IndexMembers.{numbers_from}
use Rattle.rpki_der.proofs.IndexOrderLaws.{siblings-apart}
use Rattle.rpki_der.proofs.members.Members.after.Goals as goal

pub halves-preserved-then-place-past : goal.halves-preserved-then-place-past
halves-preserved-then-place-past c =
    let m = c.args.self.now in
    let number = c.args.number in
    let middle = c.halves.low + (c.halves.high - c.halves.low) / 2 in
    let low = c.halves.invariant.0 in
    let high = c.halves.invariant.1 in
    let test = c.halves-test.true in
    let apart = siblings-apart m.entries.now m.ordered number middle c.entry_of-value.result c.entry_of-found.result
    c.entry_of-value.ensures
    (omega (arith, low)) (omega (arith, high, test)) c.entry_of-found.ensures
    (omega (arith, c.if-place-past.true, c.place.ensures, c.past-past.ensures)) in
    let parent = c.requires.member c.entry_of-value.result c.entry_of-value.ensures in (
      omega (arith, low),
      high,
      subst (λ (p : Option ℕ). numbers_from (number + 1) p (drop (number + 1) m.entries.now) ≡ numbers_from (middle + 1)
          p (drop (middle + 1) m.entries.now)) parent apart,
    )
