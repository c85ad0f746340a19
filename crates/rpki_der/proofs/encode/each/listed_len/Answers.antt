use Rattle.std.proofs.Common.{arith, lit<}
use Rattle.rpki_der.proofs.ListedLaws.{first-size, first-has, all-have, none-size, none-has}
use Rattle.rpki_der.proofs.encode.each.listed_len.Goals as goal

pub each-init : goal.each-init
each-init g c = record { sum = omega arith; below = lit< tt; left = λ h. h; all = λ h. h }

pub returns-then-not-fits-clause-none : goal.returns-then-not-fits-clause-none
returns-then-not-fits-clause-none g c = λ short few.
    let values = g.T.Values in
    let is = c.in-Some.ensures.cases.0 in
    let first = first-has values.is_short _ _ _ is (c.each.invariant.left short) in
    let size = first-size values.encoded _ _ _ is in
    let fits = c.fits.ensures.1 (first.0, omega (arith, few, size, c.each.invariant.sum)) in
    let none : ⊥ = cc in
    none

pub overflow_add-total : goal.overflow_add-total
overflow_add-total g c =
    let fits = c.fits.ensures.0 c.if-not-fits.false in
    record { fits = omega (arith, fits.1, c.encoded_len-total.ensures, c.each.invariant.below) }

pub returns-then-total-clause-none : goal.returns-then-total-clause-none
returns-then-total-clause-none g c = λ short few.
    let size = first-size g.T.Values.encoded _ _ _ c.in-Some.ensures.cases.0 in
    let many = c.if-total.true in
    omega (arith, few, size, many, c.encoded_len-total.ensures, c.each.invariant.sum)

pub each-smaller : goal.each-smaller
each-smaller g c =
    let is = c.in-Some.ensures.cases.0 in
    rw is (omega arith)

pub each-preserved : goal.each-preserved
each-preserved g c =
    let values = g.T.Values in
    let is = c.in-Some.ensures.cases.0 in
    let fits = c.fits.ensures.0 c.if-not-fits.false in
    let size = first-size values.encoded _ _ _ is in
    record {
      sum = omega (arith, size, c.encoded_len-total.ensures, c.each.invariant.sum);
      below = omega (arith, c.if-total.false);
      left = λ h. (first-has values.is_short _ _ _ is (c.each.invariant.left h)).1;
      all = λ h. c.each.invariant.all (all-have values.is_short _ _ _ is fits.0 h);
    }

pub returns-clause-some : goal.returns-clause-some
returns-clause-some g c =
    let values = g.T.Values in
    let end = c.in_default.ensures.cases in
    let size = none-size values.encoded c.each.rest.now end in (
      c.each.invariant.all (none-has values.is_short c.each.rest.now end),
      omega (arith, size, c.each.invariant.sum),
      c.each.invariant.below,
    )
