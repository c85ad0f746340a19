-- The equality of extensions is an equivalence.
use Rattle.std.specs.Cmp.{IsEquivalence, bool_eq_equiv}
use Rattle.std.proofs.lemmas.Cmp.{nat_list_eq_equiv, and_equiv, on_equiv}
use Rattle.rpki.specs.ExtensionEqual.{same_extension}

pub same_extension_equivalence : IsEquivalence same_extension
same_extension_equivalence = and_equiv (on_equiv (λ x. x.identifier) nat_list_eq_equiv)
    (and_equiv (on_equiv (λ x. x.critical) bool_eq_equiv) (on_equiv (λ x. x.content) nat_list_eq_equiv))
