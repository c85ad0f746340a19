use Rattle.std.proofs.Common.{inl, inr, refl, ◌∙◌, sym, ap, Some}
use Rattle.std.proofs.lemmas.Bool.{iff_false}
use Rattle.rpki_c.proofs.issued.test_names.Goals as goal

pub returns-then-not-is_named : goal.returns-then-not-is_named
returns-then-not-is_named c = λ s t x y h k.
    inl (refl, iff_false (c.is_named.ensures s t x y h k) c.if-not-is_named.true)

pub returns-then-not-is_identifier : goal.returns-then-not-is_identifier
returns-then-not-is_identifier c = λ s t x y h k.
    let named = (c.is_named.ensures s t x y h k).0 c.if-not-is_named.false in
    let other = iff_false c.is_identifier.ensures c.if-not-is_identifier.true in
    inr (refl, named, λ same. other (same ∙ sym (ap (λ z. Some z) (c.key_of.ensures t y k))))

pub returns : goal.returns
returns c = λ s t x y h k. record {
  name = (c.is_named.ensures s t x y h k).0 c.if-not-is_named.false;
  authority = c.is_identifier.ensures.0 c.if-not-is_identifier.false ∙ ap (λ z. Some z) (c.key_of.ensures t y k);
}
