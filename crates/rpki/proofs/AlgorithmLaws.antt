-- The contents of an algorithm identifier, from what the readers of its parts return.
use Rattle.std.proofs.Common.{◌≡◌, ℕ, Bool, true, false, Option, Some, None, Result, Ok, Err, List, [], ◌++◌, refl, sym}
use Rattle.std.proofs.Common.{ap, subst, ◌∙◌}
use Rattle.std.specs.Prelude.{is_some}
use Rattle.std.proofs.lemmas.List.{append-nil}
use Rattle.rpki_der.specs.declared.error.DecodeError.{DecodeError}
use Rattle.rpki_der.specs.Prelude.{oid, null, Spells, Accepts, Refuses, SpellsNothing, ReadsWhere, ReadsParts, Later}
use Rattle.rpki.specs.AlgorithmFault.{parameters, identified}
use Rattle.rpki_der.specs.Prelude.{SpellsLeaf, HasTag, IsLeafFault, IsNull, IsOnly}
use Rattle.rpki.specs.Algorithm.{IsParameters, IsIdentified}
use Rattle.rpki_der.proofs.ReadingLaws.{UnlessMemory-weaker}
use Rattle.rpki_der.proofs.LeavesLaws.{leaf-tag}
use Rattle.rpki_der.proofs.HeaderReadingLaws.{tag-empty}
use Rattle.rpki.proofs.NamedLaws.{identified-read, no-parameters}

whole : (p : List ℕ) → SpellsLeaf null false IsNull tt p → Spells (SpellsLeaf null false IsNull) p tt []
whole p h = record { front = p; parts = sym (append-nil p); spelled = h }

-- ---- with what the optional reader returned

abbrev pub AnswersNull : {X : Type 0} → List ℕ → List ℕ → Option X → Type 0
AnswersNull {X} m r p = ReadsWhere {X = X} (HasTag null) (λ _. tt) (SpellsLeaf null false IsNull)
    (IsLeafFault null false IsNull) m r (Ok p)

-- ---- the parameters alone

null-tag : (m : List ℕ) → IsParameters true m → HasTag null m
null-tag m h = leaf-tag null false IsNull m tt [] (whole m h)

pub bad-parameters : (m : List ℕ) → HasTag null m → Refuses (SpellsLeaf null false IsNull) m
    → SpellsNothing IsParameters m
bad-parameters m has none true h = none tt [] (whole m h)
bad-parameters m has none false h = tag-empty null (subst (HasTag null) h has)

pub parameters-read : {X : Type 0} (m r : List ℕ) (p : Option X) → AnswersNull m r p → r ≡ []
    → IsParameters (is_some p) m × ((b : Bool) → IsParameters b m → b ≡ is_some p)
parameters-read m r None h end = (sym h.1 ∙ end, only) where
  only : (b : Bool) → IsParameters b m → b ≡ false
  only true k = absurd (h.0 (null-tag m k))
  only false k = refl
parameters-read m r (Some x) h end = (all, only) where
  all : IsParameters true m
  all =
      let n = h.1 in
      let p : m ≡ n.spells.front = n.spells.parts ∙ ap (λ (l : List ℕ). n.spells.front ++ l) end ∙ append-nil
      n.spells.front in
      subst (SpellsLeaf null false IsNull tt) (sym p) n.spells.spelled

  only : (b : Bool) → IsParameters b m → b ≡ true
  only true k = refl
  only false k = absurd (tag-empty null (subst (HasTag null) k h.0))

pub parameters-not-read : {X : Type 0} (m r : List ℕ) (p : Option X) → AnswersNull m r p → (r ≡ [] → ⊥)
    → SpellsNothing IsParameters m
parameters-not-read m r None h some true k = h.0 (null-tag m k)
parameters-not-read m r None h some false k = some (h.1 ∙ k)
parameters-not-read m r (Some x) h some true k = some (sym (h.1.only tt [] (whole m k)).1)
parameters-not-read m r (Some x) h some false k = tag-empty null (subst (HasTag null) k h.0)

-- ---- the parameters of an identifier that was read

pub parameters-all : (o c m r : List ℕ) (x : Result Bool DecodeError) → Accepts (SpellsLeaf oid false (IsOnly o)) c tt m
    → ReadsParts (λ b. b) IsParameters parameters.fault m r x
    → ReadsParts (λ b. b) (IsIdentified o) (identified o).fault c r x
parameters-all o c m r (Ok b) a h = (
  λ end. identified-read o c m b a (h.0 end),
  λ some.
      (no-parameters o c m a (h.1 some).0, Later tt m a (h.1 some).1),
)
parameters-all o c m r (Err e) a h = (UnlessMemory-weaker e (no-parameters o c m a) h.0, Later tt m a h.1)
