-- Attestations of providers.
use Rattle.std.proofs.Common.{◌≡◌, ℕ, suc, List, [], ◌∷◌, get_or, Fits, w32, ap, subst}
use Rattle.rpki_contents.specs.Aspa.{AreProviders, AreNumbers, AspaParts, aspa_parts, Fields, fields_of, IsAspa}
use Rattle.rpki_contents.specs.Aspa.{IsAttestation, each_number, fields}
use Rattle.rpki_der.specs.Prelude.{sequence, around}

abbrev aspa_from : Fields → AspaParts
aspa_from p = aspa_parts p.1.0 p.1.1

module _ (customer : ℕ) (providers : List ℕ) where
  abbrev This : AspaParts
  This = aspa_parts customer providers

  pub only-aspa : (y : AspaParts) → IsAspa y (fields_of This) → y ≡ This
  only-aspa y h = ap aspa_from h.same

  pub no-aspa : (AreProviders customer providers → ⊥) → (y : AspaParts) → IsAspa y (fields_of This) → ⊥
  no-aspa none y h =
      none (subst (λ (z : AspaParts). AreProviders z.customer z.providers) (only-aspa y h) h.providers)

-- numbers of 32 bits
pub numbers-fit : (ns : List ℕ) → ((k : ℕ) → Fits w32 (get_or ns k 0)) → AreNumbers ns
numbers-fit [] h = tt
numbers-fit (n ∷ ns) h = ((h 0).fits, numbers-fit ns (λ k. h (suc k)))

-- numbers that were read
numbers-in : (ns : List ℕ) (s : List ℕ) → each_number.spells ns s → AreNumbers ns
numbers-in [] s h = tt
numbers-in (n ∷ ns) s h = (h.1.spelled.spelled.below, numbers-in ns h.0 h.2)

pub is-attestation : (customer : ℕ) (providers s : List ℕ)
    → (around sequence fields).spells (fields_of (aspa_parts customer providers)) s → AreProviders customer providers
    → IsAttestation (aspa_parts customer providers)
is-attestation customer providers s h are =
    let parts = h.spelled.two in
    let listed = parts.two in
    record {
      providers = are;
      customer = parts.one.spelled.below;
      numbers = numbers-in providers listed.contents listed.spelled;
    }
