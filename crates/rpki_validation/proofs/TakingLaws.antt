-- Adding to lists.
use Rattle.std.proofs.Common.{◌⊎◌, inl, inr, List}
use Rattle.std.specs.List.{Contains}
use Rattle.rpki_validation.specs.Taking.{Adds}

module _ {V : Type 0} where
  -- nothing is added where P is true of nothing
  pub adds-none : (P : V → Type 0) (xs : List V) → ((v : V) → P v → ⊥) → Adds P xs xs
  adds-none P xs none v = (λ h. inl h, λ h. without v h)
    where
      without : (v : V) → Contains xs v ⊎ P v → Contains xs v
      without v (inl h) = h
      without v (inr h) = absurd (none v h)

  module _ (P Q : V → Type 0) where
    -- what is true of the same is added alike
    pub adds-same : (xs ys : List V) → ((v : V) → P v → Q v) → ((v : V) → Q v → P v) → Adds P xs ys → Adds Q xs ys
    adds-same xs ys to from f v = (λ h. forth ((f v).0 h), λ h. (f v).1 (back h))
      where
        forth : Contains xs v ⊎ P v → Contains xs v ⊎ Q v
        forth (inl h) = inl h
        forth (inr h) = inr (to v h)

        back : Contains xs v ⊎ Q v → Contains xs v ⊎ P v
        back (inl h) = inl h
        back (inr h) = inr (from v h)
