use Rattle.std.proofs.Common.{◌≡◌, ◌+◌, ℕ, sym, subst, arith}
use Rattle.rpki_der.specs.Members.{AreValues}
use Rattle.rpki_der.specs.ValueListLaws.{values_append, no_values}
use Rattle.rpki_der.proofs.EncodeLaws.{count_at_most}
use Rattle.rpki_der.specs.Listed.{listed_octets}
use Rattle.rpki_der.proofs.ListedLaws.{first-octets, first-size, first-has, none-left}
use Rattle.rpki_der.proofs.encode.each.listed_count.Goals as goal

pub count-total-requires : goal.count-total-requires
count-total-requires g c =
    let values = g.T.Values in
    let is = c.in-Some.ensures.cases.0 in
    let size = first-size values.encoded _ _ _ is in
    ((first-has values.is_short _ _ _ is c.each.invariant.left).0, omega (arith, size, c.each.invariant.few))

pub overflow_add-total : goal.overflow_add-total
overflow_add-total g c =
    let size = first-size g.T.Values.encoded _ _ _ c.in-Some.ensures.cases.0 in
    let few = count_at_most _ _ c.count-total.ensures in
    record { fits = omega (arith, few, size, c.each.invariant.few) }

pub each-preserved : goal.each-preserved
each-preserved g c =
    let values = g.T.Values in
    let octets = values.encoded in
    let is = c.in-Some.ensures.cases.0 in
    let size = first-size octets _ _ _ is in
    let most = count_at_most _ _ c.count-total.ensures in
    let total = c.each.total in
    let first = c.count-total.result in
    record {
      counted = λ n h.
          let both = values_append first n (octets c.in-Some.first.now) (listed_octets octets c.in-Some.following.now)
          c.count-total.ensures h in
          let rest = subst (AreValues (first + n)) (sym (first-octets octets _ _ _ is)) both in
          let same : total + (first + n) ≡ (total + first) + n = omega arith in
          subst (λ (k : ℕ). AreValues k (listed_octets octets c.args.items.now)) same
          (c.each.invariant.counted (first + n) rest);
      few = omega (arith, most, size, c.each.invariant.few);
      left = (first-has values.is_short _ _ _ is c.each.invariant.left).1;
    }

pub returns : goal.returns
returns g c =
    let octets = g.T.Values.encoded in
    let end = none-left c.each.rest.now c.in_default.ensures.cases in
    let none = subst (λ (l : _). AreValues 0 (listed_octets octets l)) (sym end) no_values in
    let same : c.each.total + 0 ≡ c.each.total = omega arith in
    subst (λ (k : ℕ). AreValues k (listed_octets octets c.args.items.now)) same (c.each.invariant.counted 0 none)
