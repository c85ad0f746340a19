-- Lemmas: equality of bit strings is an equivalence.
use Rattle.std.specs.Cmp.{IsEquivalence}
use Rattle.std.proofs.lemmas.Cmp.{and_equiv, on_equiv, nat_eq_equiv, nat_list_eq_equiv}
use Rattle.rpki_der.specs.Equal.{same_bits}

pub same_bits_equivalence : IsEquivalence same_bits
same_bits_equivalence = and_equiv (on_equiv (λ b. b.unused) nat_eq_equiv) (on_equiv (λ b. b.octets) nat_list_eq_equiv)
