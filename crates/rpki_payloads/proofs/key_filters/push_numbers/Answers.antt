use Rattle.std.proofs.Common.{◌≡◌, ℕ, refl, arith}
use Rattle.std.specs.Prelude.{Option, Some, None}
use Rattle.std.specs.BTreeSet.{keys}
use Rattle.rpki_payloads.proofs.AskedLaws.{added-first, added-next, added-none, asked-to, exact-asked, numbers-are}
use Rattle.rpki_payloads.proofs.key_filters.push_numbers.Goals as goal

pub between-rest-requires : goal.between-rest-requires
between-rest-requires c =
    rw (c.asking-from.ensures, c.asking-to.ensures)
    (asked-to c.args.identifier c.args.key.now.first c.args.key.now.last c.args.key.now.last c.requires (omega arith)).0

pub rest-init : goal.rest-init
rest-init c = added-first c.between-rest.result c.args.numbers.now.items

pub rest-preserved-in-Continue-1 : goal.rest-preserved-in-Continue-1
rest-preserved-in-Continue-1 c =
    rw c.in_ok-push.ensures.items
    (added-next c.between-rest.result c.args.numbers.now.items c.rest.rest c.next.new.self c.in-Some.one.now
    c.rest.numbers.items c.rest.invariant c.in-Some.ensures.steps c.in-Some-asn.number c.in-Some-asn.is)

pub returns : goal.returns
returns c =
    numbers-are (keys c.args.all.now) c.between-rest.result c.rest.rest c.args.numbers.now.items c.rest.numbers.items
    c.args.identifier c.args.key.now
    (rw (c.asking-from.ensures, c.asking-to.ensures) at (c.between-rest.ensures exact-asked)) c.rest.invariant
    c.in_default.ensures.steps.0

pub rest-preserved : goal.rest-preserved
rest-preserved c =
    added-none c.between-rest.result c.args.numbers.now.items c.rest.rest c.next.new.self c.in-Some.one.now
    c.rest.numbers.items c.rest.invariant c.in-Some.ensures.steps
    (none-of c.in-Some.one.now.asn c.in_default-asn.not-Some)
  where
    none-of : (o : Option ℕ) → ((n : ℕ) → o ≡ Some n → ⊥) → o ≡ None
    none-of None h = refl
    none-of (Some n) h = absurd (h n refl)
