use Rattle.std.proofs.Common.{◌∙◌, arith, refl, sym}
use Rattle.std.proofs.lemmas.Bool.{false≢true}
use Rattle.rpki_issue.proofs.DoubledLaws.{all-differ, two-are-same}
use Rattle.rpki_issue.proofs.doubled.differ.Goals as goal

pub returns-then-eq : goal.returns-then-eq
returns-then-eq c = (
  λ z. absurd (false≢true z),
  λ h. absurd (two-are-same _ _ c.sort_unstable.ensures.permutation _ c.numbers.i _ _ (omega arith) c.numbers-test.true
      c.index-numbers-i.is c.index-numbers-i-in-numbers.is (sym c.eq.ensures ∙ c.if-eq.true) h),
)

pub returns : goal.returns
returns c = (
  λ z. all-differ _ _ c.sort_unstable.ensures.permutation c.sort_unstable.ensures.sorted
      (λ k d within. c.numbers.invariant k d (omega (arith, within, c.numbers-test.false))),
  λ h. refl,
)
