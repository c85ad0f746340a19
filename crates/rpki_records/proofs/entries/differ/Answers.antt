use Rattle.std.proofs.Common.{◌∙◌, arith, refl, sym}
use Rattle.std.proofs.lemmas.Bool.{false≢true}
use Rattle.rpki_records.proofs.TextsLaws.{all-differ, octets-differ, two-are-same}
use Rattle.rpki_records.proofs.entries.differ.Goals as goal

pub returns-then-eq : goal.returns-then-eq
returns-then-eq c = (
  λ z. absurd (false≢true z),
  λ h. absurd (two-are-same _ _ c.sort_unstable.ensures.permutation _ c.texts.i _ (omega arith) c.texts-test.true
      (sym c.eq.ensures ∙ c.if-eq.true) ((octets-differ _).1 h)),
)

pub returns : goal.returns
returns c = (
  λ z. (octets-differ _).0 (all-differ _ _ c.sort_unstable.ensures.permutation c.sort_unstable.ensures.sorted
      (λ k d within. c.texts.invariant k d (omega (arith, within, c.texts-test.false)))),
  λ h. refl,
)
