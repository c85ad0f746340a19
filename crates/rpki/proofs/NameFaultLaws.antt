-- The errors of names: where allocation may fail, and where there is no SEQUENCE.
use Rattle.std.proofs.Common.{◌≡◌, ◌⊎◌, inl, inr, ℕ, true, false, List, [], ◌∷◌, refl, Result, codes}
use Rattle.rpki_der.specs.declared.error.DecodeError.{DecodeError}
use Rattle.rpki_der.specs.declared.error.DecodeError.TheVariants.{OutOfMemory}
use Rattle.rpki_der.specs.Prelude.{oid, sequence, set, Accepts, Refusal, Reads, Finds, SpellsLeaf, IsOidOf, IsValueList}
use Rattle.rpki_der.specs.Prelude.{SpellsKept, IsCapturedFault, RepeatedFault}
use Rattle.rpki_der.specs.Prelude.{AfterMember, IsLeafFault, SpellsAnyValue, IsNestedFault, IsEndFault, only}
use Rattle.rpki_der.proofs.LeavesLaws.{leaf-no-memory}
use Rattle.rpki_der.proofs.ReadingLaws.{UnlessMemory-weaker, or-memory-from}
use Rattle.rpki_der.proofs.CaptureLaws.{reads-as}
use Rattle.rpki_der.proofs.FirstFaultLaws.{first-no-memory, end-no-memory, repeated-no-memory, inside-no-memory}
use Rattle.rpki_der.proofs.WalkLaws.{nested-no-memory}
use Rattle.rpki.specs.Name.{SpellsSome, SpellsRelative, IsName, SpellsNameOctets}
use Rattle.rpki.specs.NameValue.{HasNameValue}
use Rattle.rpki.specs.NameFault.{attribute_parts, attribute, attributes, relative, relatives, IsWalkedNameFault}
use Rattle.rpki.specs.NameFault.{IsNameFault, not_empty, any_value}
use Rattle.rpki.proofs.NameLaws.{Passed, AnyName, leaf-any, octets-any, name-of, name-value, name-found}
use Rattle.rpki.proofs.NameLaws.Passed.{Here, Next}

-- ---- the loop of a reader of many parts

-- the error of the rest is that of all
pub passed-fault : {V : Type 0} (G : V → List ℕ → Type 0) (K : List ℕ → DecodeError → Type 0) (s m : List ℕ)
    (e : DecodeError) → Passed G s m → RepeatedFault G K m e → RepeatedFault G K s e
passed-fault G K s m e Here h = h
passed-fault G K s m e (Next v n a p) h = AfterMember v n a (passed-fault G K n m e p h)

-- nothing remains
pub is-nothing : (s : List ℕ) → ((s ≡ [] → ⊥) → ⊥) → s ≡ []
is-nothing [] h = refl
is-nothing (x ∷ xs) h = absurd (h (λ e. cc))

-- ---- allocation

-- the name is read in place
attribute-never : (c : List ℕ) → attribute_parts.fault c OutOfMemory → ⊥
attribute-never c = first-no-memory (SpellsLeaf oid false IsOidOf) (IsLeafFault oid false IsOidOf) _ c
    (λ h. leaf-no-memory oid false IsOidOf c OutOfMemory h refl) (λ x r h. value h)
  where
    value : {r : List ℕ} → (not_empty (codes "invalid name") (only any_value)).fault r OutOfMemory → ⊥
    value (inl h) = h.1
    value {r} (inr h) = first-no-memory SpellsAnyValue IsNestedFault (λ v. IsEndFault) r nested-no-memory
        (λ v q. end-no-memory q) h

attributes-never : (c : List ℕ) → attributes.fault c OutOfMemory → ⊥
attributes-never c (inl h) = h.1
attributes-never c (inr h) = repeated-no-memory _ attribute.fault c
    (λ r. inside-no-memory sequence true attribute_parts.fault r attribute-never) h

relatives-never : (c : List ℕ) → relatives.fault c OutOfMemory → ⊥
relatives-never c (inl h) = h.1
relatives-never c (inr h) = repeated-no-memory _ relative.fault c
    (λ r. inside-no-memory set true attributes.fault r attributes-never) h

pub name-never : (s : List ℕ) → IsWalkedNameFault s OutOfMemory → ⊥
name-never s = inside-no-memory sequence true relatives.fault s relatives-never

-- ---- a name, captured

octets-of : (v p : List ℕ) → SpellsKept AnyName v p → SpellsNameOctets v p
octets-of v p h = record { same = h.same; named = name-of v h.spelled }

any-of : (v p : List ℕ) → SpellsNameOctets v p → SpellsKept AnyName v p
any-of v p h = record {
  same = h.same;
  value = tt;
  spelled = leaf-any sequence true (SpellsSome SpellsRelative)
      h.named.0 v h.named.1;
}

pub name-values : (u : Unit {0}) (p : List ℕ) → AnyName u p → IsValueList p
name-values u p h = let g = name-of p h in (1, name-value g.0 p g.1)

pub name-kept : (s r : List ℕ) (x : Result (List ℕ) DecodeError)
    → Reads (λ c. c) (SpellsKept AnyName) (IsCapturedFault AnyName IsWalkedNameFault) s r x
    → Reads (λ n. n) SpellsNameOctets IsNameFault s r x
name-kept s r x h =
    reads-as (λ n. n) (SpellsKept AnyName) SpellsNameOctets (IsCapturedFault AnyName IsWalkedNameFault) IsNameFault s r
    x octets-of any-of
    (λ e. or-memory-from (λ q. IsWalkedNameFault q OutOfMemory ⊎ Finds AnyName q) HasNameValue IsWalkedNameFault s e
    (λ m. elim m [
      | inl k ↦ absurd (name-never s k)
      | inr k ↦ name-found s k.1 k.2
    ])) h

pub kept-named : (s r c : List ℕ) → Accepts (SpellsKept AnyName) s c r → IsName c
kept-named s r c h = (octets-of c h.spells.front h.spells.spelled).named

-- ---- a name whose octets are borrowed

-- it isn't there
pub view-refused : (s r : List ℕ) (e : DecodeError) → Refusal AnyName IsWalkedNameFault s r e
    → Refusal SpellsNameOctets IsWalkedNameFault s s e
view-refused s r e h = record {
  unchanged = refl;
  refuses = UnlessMemory-weaker e
      (λ none v q k. none tt q (octets-any s v q k)) h.refuses;
  kind = h.kind;
}
