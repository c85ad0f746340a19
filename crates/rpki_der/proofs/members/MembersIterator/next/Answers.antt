use Rattle.std.proofs.Common.{◌≡◌, ◌∙◌, ◌∷◌, true, false, List, ℕ, refl, sym, ap, ap₂, length, get_or, arith, rules}
use Rattle.std.specs.Prelude.{nat_eq}
use Rattle.std.specs.Option.{option_eq}
use Rattle.std.proofs.lemmas.Option.{get_or_from_slice_get}
use Rattle.rpki_der.specs.Index.{Entry}
use Rattle.rpki_der.specs.MembersLeft.{numbers_left}
use Rattle.rpki_der.proofs.MemberLaws.{next-member, no-member, members-end}
use Rattle.rpki_der.proofs.IndexOrderLaws.{members-past}
use Rattle.rpki_der.proofs.members.MembersIterator.next.Goals as goal

pub returns-then-past-place-clause-steps : goal.returns-then-past-place-clause-steps
unfolding numbers_left
returns-then-past-place-clause-steps c =
    let m = c.entries.self in
    let none = members-past m.parent c.in-Some.past m.entries.now m.ordered (m.ends c.in-Some.past c.in-Some.is) m.next
    c.entry_of-found.result
    c.entry_of-found.ensures c.entries-test.true (omega (arith, c.if-past-place.true, c.place.ensures)) in
    (sym c.entries.invariant ∙ none, none)

pub returns-then-eq-clause-steps : goal.returns-then-eq-clause-steps
unfolding numbers_left
returns-then-eq-clause-steps c =
    let m = c.entries.self in
    let here = get_or_from_slice_get m.entries.now m.next c.entry_of-found.result c.entry_of-found.result
    c.entry_of-found.ensures in
    let has : option_eq nat_eq (get_or m.entries.now m.next c.entry_of-found.result).parent m.parent ≡ true =
    ap (λ (e : Entry). option_eq nat_eq e.parent m.parent) here ∙ ap₂ (option_eq nat_eq) (sym c.parent.ensures) refl ∙
    sym c.eq.ensures ∙ c.if-eq.true in
    sym c.entries.invariant ∙ next-member m.next m.parent m.entries.now c.entry_of-found.result c.entries-test.true has
    ∙ ap (λ (ns : List ℕ). m.next ∷ ns) c.after-self.ensures

pub returns-then-eq-clause-goes : goal.returns-then-eq-clause-goes
unfolding numbers_left
returns-then-eq-clause-goes c =
    let step = returns-then-eq-clause-steps c in
    let shorter = ap length step in search rules

pub entries-preserved : goal.entries-preserved
unfolding numbers_left
entries-preserved c =
    let m = c.entries.self in
    let here = get_or_from_slice_get m.entries.now m.next c.entry_of-found.result c.entry_of-found.result
    c.entry_of-found.ensures in
    let has : option_eq nat_eq (get_or m.entries.now m.next c.entry_of-found.result).parent m.parent ≡ false =
    ap (λ (e : Entry). option_eq nat_eq e.parent m.parent) here ∙ ap₂ (option_eq nat_eq) (sym c.parent.ensures) refl ∙
    sym c.eq.ensures ∙ c.if-eq.false in
    sym (no-member m.next m.parent m.entries.now c.entry_of-found.result c.entries-test.true has) ∙ c.entries.invariant

pub returns-clause-steps : goal.returns-clause-steps
unfolding numbers_left
returns-clause-steps c =
    let none = members-end c.entries.self.next c.entries.self.parent c.entries.self.entries.now
    (omega (arith, c.entries-test.false)) in
    (sym c.entries.invariant ∙ none, none)
