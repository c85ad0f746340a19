use Rattle.std.proofs.Common.{◌∙◌, arith, refl, sym}
use Rattle.std.proofs.lemmas.Bool.{false≢true}
use Rattle.rpki_contents.proofs.NamesLaws.{all-differ, two-are-same}
use Rattle.rpki_contents.proofs.names.differ.Goals as goal

pub returns-then-eq : goal.returns-then-eq
returns-then-eq c = (
  λ z. absurd (false≢true z),
  λ h. absurd (two-are-same _ _ c.sort_unstable.ensures.permutation _ c.names.i _ (omega arith) c.names-test.true
      (sym c.eq.ensures ∙ c.if-eq.true) h),
)

pub returns : goal.returns
returns c = (
  λ z. all-differ _ _ c.sort_unstable.ensures.permutation c.sort_unstable.ensures.sorted
      (λ k d within. c.names.invariant k d (omega (arith, within, c.names-test.false))),
  λ h. refl,
)
