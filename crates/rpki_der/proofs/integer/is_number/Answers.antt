use Rattle.std.proofs.Common.{ℕ, subst}
use Rattle.std.proofs.lemmas.Bool.{eq-eqb}
use Rattle.std.proofs.Math.Facts.{Fits-lt-pow}
use borrow.Author.Tests.{eqb-true}
use Rattle.rpki_der.proofs.IntegerLaws.{one-number}
use Rattle.rpki_der.specs.Integer.{IsUnsigned}
use Rattle.rpki_der.proofs.TriedLaws.{refused-iff}
use Rattle.rpki_der.proofs.integer.is_number.Goals as goal

pub returns-in-Some : goal.returns-in-Some
returns-in-Some c =
    let is = c.in-Some.ensures.value.contents in (
      λ same. subst (λ (n : ℕ). IsUnsigned n c.args.contents.now) (eqb-true _ _ same) is,
      λ h. eq-eqb _ _ (one-number _ _ c.args.contents.now is h),
    )

pub returns-in-None : goal.returns-in-None
returns-in-None c =
    refused-iff (IsUnsigned c.args.expected c.args.contents.now)
    (λ h. c.in-None.ensures.none c.args.expected (record { below = Fits-lt-pow c.ranges.expected; contents = h }))
