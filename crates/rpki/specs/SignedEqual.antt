-- Which values of the RPKI's signed data are equal.
use Rattle.std.specs.Prelude.{Bool, nat_eq}
use Rattle.std.specs.Ordering.{on, eq_of_both}
use Rattle.std.specs.Cmp.Lexicographic.{pointwise}
use mathlib.Core.Bool.{beq}
use Rattle.rpki.specs.SignedData.{SignedParts}

-- the same slice, parameters in both or in neither, and the same signature
abbrev pub same_signed : SignedParts Bool → SignedParts Bool → Bool
same_signed = eq_of_both (on (λ x. x.signed) (pointwise nat_eq))
    (eq_of_both (on (λ x. x.algorithm) beq) (on (λ x. x.value) (pointwise nat_eq)))
