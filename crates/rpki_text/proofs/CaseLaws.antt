-- Which texts are themselves in lower case: those without a capital.
use Rattle.std.proofs.Common.{◌≡◌, ◌↔◌, ◌⊎◌, inl, inr, ℕ, ◌<◌, ◌≤◌, Bool, true, false, not, IsTrue, List, [], ◌∷◌, refl}
use Rattle.std.proofs.Common.{sym, ap, arith}
use Rattle.std.specs.Prelude.{◌||◌}
use Rattle.std.specs.List.{list_any}
use Rattle.std.specs.Char.{to_ascii_lowercase, is_ascii_uppercase}
use Rattle.std.proofs.lemmas.Bool.Decides.{leb_tells}
use Rattle.std.proofs.lemmas.Str.Ascii.{lowercase_is}
use Rattle.rpki_text.specs.UriText.{lowercase}

-- a letter is a capital or it isn't, and which octets these are
capital-tells : (c : ℕ)
    → ((is_ascii_uppercase c ≡ true) × (65 ≤ c) × (c ≤ 90)) ⊎ ((is_ascii_uppercase c ≡ false) × ((c < 65) ⊎ (90 < c)))
capital-tells c =
    elim (leb_tells 65 c) [
      | inl a ↦
          elim (leb_tells c 90) [
            | inl b ↦ inl (rw (a.0, b.0) refl, a.1, b.1)
            | inr b ↦ inr (rw (a.0, b.0) refl, inr b.1)
          ]
      | inr a ↦ inr (rw a.0 refl, inl a.1)
    ]

-- a capital is another octet in lower case, and any other octet is itself
capital-changes : (c : ℕ) → is_ascii_uppercase c ≡ true → to_ascii_lowercase c ≡ c → ⊥
capital-changes c h same =
    elim (capital-tells c) [
      | inl y ↦ omega (arith, (lowercase_is c).0 (y.1, y.2), same)
      | inr n ↦ let no = n.0 in cc
    ]

other-stays : (c : ℕ) → is_ascii_uppercase c ≡ false → to_ascii_lowercase c ≡ c
other-stays c h =
    elim (capital-tells c) [
      | inl y ↦ let yes = y.0 in cc
      | inr n ↦ elim (n.1) [ inl l ↦ (lowercase_is c).1 l | inr g ↦ (lowercase_is c).2 g ]
    ]

-- a text is itself in lower case exactly where it has no capital
same-in_lower_case : (t : List ℕ) → list_any is_ascii_uppercase t ≡ false → lowercase t ≡ t
same-in_lower_case [] h = refl
same-in_lower_case (c ∷ t) h = by_cases (is_ascii_uppercase c) refl h (same-in_lower_case t) where
  by_cases : (v : Bool) → is_ascii_uppercase c ≡ v → (v || list_any is_ascii_uppercase t) ≡ false
      → (list_any is_ascii_uppercase t ≡ false → lowercase t ≡ t)
      → lowercase (c ∷ t) ≡ c ∷ t
  by_cases true e k more = cc
  by_cases false e k more = rw (other-stays c e) (ap (λ s. c ∷ s) (more k))

same-head : (c d : ℕ) (t u : List ℕ) → c ∷ t ≡ d ∷ u → c ≡ d
same-head c d t u h = cc

same-tail : (c d : ℕ) (t u : List ℕ) → c ∷ t ≡ d ∷ u → t ≡ u
same-tail c d t u h = cc

no-capital-in : (t : List ℕ) → lowercase t ≡ t → list_any is_ascii_uppercase t ≡ false
no-capital-in [] h = refl
no-capital-in (c ∷ t) h = by_cases (is_ascii_uppercase c) refl (no-capital-in t (same-tail _ _ _ _ h)) where
  by_cases : (v : Bool) → is_ascii_uppercase c ≡ v → list_any is_ascii_uppercase t ≡ false
      → (v || list_any is_ascii_uppercase t) ≡ false
  by_cases true e more = absurd (capital-changes c e (same-head _ _ _ _ h))
  by_cases false e more = more

pub without-capital : (t : List ℕ) (b : Bool) → b ≡ list_any is_ascii_uppercase t → IsTrue (not b) ↔ (lowercase t ≡ t)
without-capital t true e = ((λ h. cc), λ h. let no = no-capital-in t h in cc)
without-capital t false e = ((λ h. same-in_lower_case t (sym e)), λ h. refl)
