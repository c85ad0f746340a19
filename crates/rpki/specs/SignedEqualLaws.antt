-- The equality of the RPKI's signed data is an equivalence.
use Rattle.std.specs.Cmp.{IsEquivalence, bool_eq_equiv}
use Rattle.std.proofs.lemmas.Cmp.{nat_list_eq_equiv, and_equiv, on_equiv}
use Rattle.rpki.specs.SignedEqual.{same_signed}

pub same_signed_equivalence : IsEquivalence same_signed
same_signed_equivalence = and_equiv (on_equiv (λ x. x.signed) nat_list_eq_equiv)
    (and_equiv (on_equiv (λ x. x.algorithm) bool_eq_equiv) (on_equiv (λ x. x.value) nat_list_eq_equiv))
