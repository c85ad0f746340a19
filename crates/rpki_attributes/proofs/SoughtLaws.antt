-- A value that is all of some octets, the attribute of a type, and what attributes of a signed object say.
use Rattle.std.proofs.Common.{◌≡◌, ℕ, Bool, true, false, List, [], ◌∷◌, Option, None, Some, sym, ap}
use Rattle.std.proofs.Common.{subst, ◌∙◌}
use Rattle.rpki_der.specs.declared.error.DecodeError.{DecodeError}
use Rattle.rpki_der.specs.declared.error.DecodeError.TheVariants.{OutOfMemory}
use Rattle.rpki_der.specs.declared.cursor.Constructed.{Constructed}
use Rattle.rpki_der.specs.Cursor.{left}
use Rattle.rpki_der.specs.Reading.{Refusal, SpellsNothing}
use Rattle.rpki_der.specs.Format.{Format}
use Rattle.rpki_der.proofs.ReadingLaws.{UnlessMemory-weaker}
use Rattle.rpki_der.proofs.ComposedLaws.{nothing-whole}
use Rattle.rpki_der.proofs.InsideLaws.{unless-memory}
use Rattle.rpki_attributes.specs.SignedAttributes.{Attribute, AttributeValues, AreSigned, are_known, FindsOne}
use Rattle.rpki_attributes.specs.SignedAttributes.{IsOnce, IsAtMostOnce}

-- a reader that allocates nothing found no value
pub nothing-there : {V : Type 0} (G : V → List ℕ → Type 0) (K : List ℕ → DecodeError → Type 0) (s r : List ℕ)
    (e : DecodeError) → (K s OutOfMemory → ⊥) → Refusal G K s r e → SpellsNothing G s
nothing-there G K s r e never h =
    unless-memory e (λ z. never (subst (K s) z h.kind)) (UnlessMemory-weaker e (nothing-whole G s) h.refuses)

-- ---- the attribute of a type

-- the values that were found before, in front of others
abbrev pub found_before : Option Constructed → List (List ℕ) → List (List ℕ)
found_before None vs = vs
found_before (Some c) vs = left c ∷ vs

module _ {V : Type 0} (F : Format V) where
  module _ (vs : List (List ℕ)) (c : List ℕ) (one : vs ≡ c ∷ []) where
    pub once-one : {X : Type 0} (view : X → V) (o : Option X) → FindsOne view (λ v. F.spells v c) o
        → FindsOne view (IsOnce F vs) o
    once-one {X = X} view o h = subst (λ (cs : List (List ℕ)). FindsOne view (IsOnce F cs) o) (sym one) (finds o h)
      where
        finds : (o : Option X) → FindsOne view (λ v. F.spells v c) o → FindsOne view (IsOnce F (c ∷ [])) o
        finds None h = h
        finds (Some x) h = h

    there : (v : V) → F.spells v c → IsOnce F vs v
    there v h = subst (λ (cs : List (List ℕ)). IsOnce F cs v) (sym one) h

    back : (v : V) → IsOnce F vs v → F.spells v c
    back v h = subst (λ (cs : List (List ℕ)). IsOnce F cs v) one h

    pub at-most-one : (x : V) → F.spells x c × ((v : V) → F.spells v c → v ≡ x)
        → IsAtMostOnce F vs (Some x) × ((o : Option V) → IsAtMostOnce F vs o → o ≡ Some x)
    at-most-one x h = (there x h.0, only) where
      only : (o : Option V) → IsAtMostOnce F vs o → o ≡ Some x
      only None e = let n : [] ≡ c ∷ [] = sym e ∙ one in cc
      only (Some v) k = ap (λ (w : V). Some w) (h.1 v (back v k))

-- ---- what they say together

module _ (strict : Bool) (xs : List Attribute) where
  pub unknown : are_known xs ≡ false → (v : AttributeValues) → AreSigned strict xs v → ⊥
  unknown not v h = let yes : are_known xs ≡ true = h.known in cc
