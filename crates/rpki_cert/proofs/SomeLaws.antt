-- Values of one type, one at least.
use Rattle.std.proofs.Common.{◌≡◌, ◌≢◌, ℕ, List, [], ◌∷◌, ◌++◌, refl, subst}
use Rattle.rpki_der.specs.Reading.{Spells}
use Rattle.rpki_der.specs.Each.{SpellsEach, SpellsSome}

none-of-nothing : (p q : List ℕ) → [] ≡ p ++ q → p ≡ []
none-of-nothing [] q e = refl
none-of-nothing (y ∷ ys) q e = absurd (cc)

module _ {V : Type 0} (G : V → List ℕ → Type 0) where
  -- nothing is there, and no value is written in no octets
  pub none-some : ((v : V) → G v [] → ⊥) → (s : List ℕ) → s ≡ [] → (xs : List V) → SpellsSome G xs s → ⊥
  none-some nowhere s end xs k = go xs k.some k.each where
    nothing : (x : V) (r : List ℕ) → Spells G [] x r → ⊥
    nothing x r h = nowhere x (subst (G x) (none-of-nothing h.front r h.parts) h.spelled)

    go : (xs : List V) → xs ≢ [] → SpellsEach G xs s → ⊥
    go [] some each = some refl
    go (x ∷ xs) some each = nothing x each.0 (subst (λ (q : List ℕ). Spells G q x each.0) end each.1)

  -- something is there, and so some value
  pub some-there : (s : List ℕ) (xs : List V) → s ≢ [] → SpellsEach G xs s → SpellsSome G xs s
  some-there s xs some each = record {
    some = λ e. some (subst (λ (ys : List V). SpellsEach G ys s) e each);
    each =
        each;
  }
