-- The two extensions of a revocation list.
use Rattle.std.proofs.Common.{◌≡◌, ◌∙◌, ◌∷◌, [], ℕ, List, Option, None, Some, true, false, inl, inr, ap, arith}
use Rattle.std.proofs.Common.{slice_index_or, refl, sym, length, get_or, ◌≤◌, ◌<◌}
use Rattle.std.specs.Prelude.{IfSome, IfNone}
use Rattle.rpki_der.specs.declared.error.DecodeError.TheVariants.{OutOfMemory}
use Rattle.rpki_der.specs.TagName.{sequence}
use Rattle.rpki_der.specs.FirstFault.{FirstFault, IsEndFault}
use Rattle.rpki_der.proofs.LeavesLaws.{leaf-no-memory}
use Rattle.rpki_der.proofs.FirstFaultLaws.{inside-no-memory, first-no-memory, end-no-memory}
use Rattle.rpki.specs.ExtensionValue.{ExtensionParts}
use Rattle.rpki.specs.KeyIdentifier.{IsKeyIdentifier}
use Rattle.rpki_x509.specs.Authority.{identifier_tag, SpellsTagged}
use Rattle.rpki_x509.specs.Authority.{authority_key_identifier}
use Rattle.rpki_crl.specs.Crl.{ListExtensions, IsAuthority, IsCrlNumber, AreExtensions, crl_number}
use Rattle.rpki_x509.specs.Authority.{authority_content, tagged_identifier}

pub some-weaker : {A : Type 0} {P Q : A → Type 0} (r : Option A) → ((a : A) → P a → Q a) → IfSome r P → IfSome r Q
some-weaker None f h = h
some-weaker (Some a) f h = f a h

pub none-weaker : {A P Q : Type 0} (r : Option A) → (P → Q) → IfNone r P → IfNone r Q
none-weaker None f h = f h
none-weaker (Some a) f h = h

pub none-as : {A P : Type 0} (r : Option A) → P → IfNone r P
none-as None p = p
none-as (Some a) p = tt

-- an authority key identifier takes no memory
pub authority-no-memory : (s : List ℕ) → authority_content.fault s OutOfMemory → ⊥
authority-no-memory s h =
    inside-no-memory sequence true (FirstFault SpellsTagged tagged_identifier.fault (λ v. IsEndFault)) s
    (λ d k. first-no-memory SpellsTagged tagged_identifier.fault (λ v. IsEndFault) d
    (λ l. leaf-no-memory identifier_tag false IsKeyIdentifier d OutOfMemory l refl) (λ v r l. end-no-memory r l) k) h

-- what they say, from the parts
abbrev the-list : List ℕ → ℕ → ListExtensions
the-list authority number = record { authority = authority; number = number }

pub said-is : (v : ListExtensions) (k : List ℕ) (n : ℕ) → v.authority ≡ k → v.number ≡ n
    → v ≡ record { authority = k; number = n }
said-is v k n e f =
    ap (λ (a : List ℕ). the-list a v.number) e ∙ ap (λ (m : ℕ). the-list k m) f

other-identifier : crl_number ≡ authority_key_identifier → ⊥
other-identifier e = let n = ap (λ (l : List ℕ). slice_index_or l 2 0) e in omega (arith, n)

module _ (x y : ExtensionParts) (v : ListExtensions) where
  -- the first is the authority key identifier, or the second is
  pub in-order : x.identifier ≡ authority_key_identifier → AreExtensions v (x ∷ y ∷ [])
      → IsAuthority v.authority x × IsCrlNumber v.number y
  in-order e (inl h) = h
  in-order e (inr h) = absurd (other-identifier (sym h.1.identifier ∙ e))

  pub turned : (x.identifier ≡ authority_key_identifier → ⊥) → AreExtensions v (x ∷ y ∷ [])
      → IsAuthority v.authority y × IsCrlNumber v.number x
  turned other (inl h) = absurd (other h.0.identifier)
  turned other (inr h) = h

-- a list of two
pub two-items : {X : Type 0} (xs : List X) (x y : X) → 2 ≤ length xs → length xs < 3 → x ≡ get_or xs 0 x
    → y ≡ get_or xs 1 y → xs ≡ x ∷ y ∷ []
two-items [] x y low high e f = absurd (omega (arith, low))
two-items (a ∷ []) x y low high e f = absurd (omega (arith, low))
two-items (a ∷ b ∷ []) x y low high e f = cc
two-items (a ∷ b ∷ d ∷ ds) x y low high e f = absurd (omega (arith, high))
