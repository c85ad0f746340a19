-- A format says what octets spell a value and which error the octets have that spell none, at once. The error is that
-- of the leftmost part that isn't there.
use Rattle.std.specs.Prelude.{◌≡◌, ◌⊎◌, ℕ, true, false, List, [], Option, Result}
use Rattle.rpki_der.specs.declared.error.DecodeError.{DecodeError}
use Rattle.rpki_der.specs.declared.error.DecodeError.TheVariants.{Truncated, BadTag, BadLength, Unexpected, Content}
use Rattle.rpki_der.specs.declared.error.DecodeError.TheVariants.{Trailing, OutOfMemory}
use Rattle.rpki_der.specs.TagName.{TagName}
use Rattle.rpki_der.specs.Reading.{Reads, ReadsWhere, Decodes, IsWholeFault, NeverMemory, OrMemoryWhere, TakesNoMemory}
use Rattle.rpki_der.specs.Reading.{Finds}
use Rattle.rpki_der.specs.Values.{SpellsContents, SpellsLeaf, HasTag, IsContentsFault, IsLeafFault}
use Rattle.rpki_der.specs.Each.{SpellsEach, IsEachFault}
use Rattle.rpki_der.specs.Parts.{SpellsBoth, OptionalThen}
use Rattle.rpki_der.specs.FirstFault.{FirstFault, OptionalFault, IsEndFault, IsInsideFault, ReadsParts}

pub record Format (V : Type 0) : Type 1 where
  pub spells : V → List ℕ → Type 0
  pub fault : List ℕ → DecodeError → Type 0

-- ---- one value

-- a value of this tag in primitive form, whose contents C spells
abbrev pub leaf : {V : Type 0} → TagName → (V → List ℕ → Type 0) → Format V
leaf t C = record { spells = SpellsLeaf t false C; fault = IsLeafFault t false C }

-- a value of this tag in primitive form, with any contents, which are its value
abbrev pub octets_under : TagName → Format (List ℕ)
octets_under t = record { spells = SpellsContents t false; fault = IsContentsFault t false }

-- a value of this tag in constructed form, around contents of P
abbrev pub around : {V : Type 0} → TagName → Format V → Format V
around t P = record { spells = SpellsLeaf t true P.spells; fault = IsInsideFault t true P.fault }

-- ---- parts, in sequence (X.690 8.9)

-- a part, and then what P says of its value
abbrev pub then_by : {A B : Type 0} → Format A → (A → Format B) → Format (A × B)
then_by F P = record {
  spells = λ x. SpellsBoth F.spells (P x.0).spells x.0 x.1;
  fault = FirstFault F.spells F.fault (λ a. (P a).fault);
}

-- a part, and then others
abbrev pub then : {A B : Type 0} → Format A → Format B → Format (A × B)
then F P = then_by F (λ a. P)

-- a part that may be left out, and is there where the tag is; and then others
abbrev pub optional_then : {A B : Type 0} → TagName → Format A → Format B → Format (Option A × B)
optional_then t F P = record {
  spells = OptionalThen F.spells P.spells;
  fault = OptionalFault (HasTag t) F.spells F.fault P.fault;
}

-- nothing more
abbrev pub end : Format (Unit {0})
end = record { spells = λ u s. s ≡ []; fault = IsEndFault }

-- a part, and nothing else
abbrev pub only : {V : Type 0} → Format V → Format V
only F = record { spells = F.spells; fault = FirstFault F.spells F.fault (λ v. IsEndFault) }

-- values, in sequence, which are kept (X.690 8.10)
abbrev pub each : {V : Type 0} → Format V → Format (List V)
each F = record { spells = SpellsEach F.spells; fault = IsEachFault F.spells F.fault }

-- ---- a CHOICE (X.690 8.13)

-- a value of F where the tag is, and of G elsewhere
abbrev pub either : {V : Type 0} → TagName → Format V → Format V → Format V
either t F G = record {
  spells = λ v p. F.spells v p ⊎ G.spells v p;
  fault = λ s e. (HasTag t s × F.fault s e) ⊎ ((HasTag t s → ⊥) × G.fault s e);
}

-- ---- a value of which something has to hold

-- a spelling of a value of G for which v stands
pub record SpellsFor {V O : Type 0} (G : O → List ℕ → Type 0) (R : V → O → Type 0) (v : V) (p : List ℕ) : Type 0 where
  pub value : O
  pub spelled : G value p
  pub stands : R v value

-- an error of contents
abbrev pub IsContentError : DecodeError → Type 0
IsContentError Truncated = ⊥
IsContentError BadTag = ⊥
IsContentError BadLength = ⊥
IsContentError Unexpected = ⊥
IsContentError (Content e) = Unit {0}
IsContentError Trailing = ⊥
IsContentError OutOfMemory = ⊥

-- nothing stands for the value, which is an error of contents
abbrev pub StandsForNothing : {V O : Type 0} → (V → O → Type 0) → O → List ℕ → DecodeError → Type 0
StandsForNothing {V} R o r e = ((v : V) → R v o → ⊥) × IsContentError e

-- a value of F, for which v stands where R says so: a list ascends, a range has its low end below its high end
abbrev pub such : {V O : Type 0} → (V → O → Type 0) → Format O → Format V
such R F = record { spells = SpellsFor F.spells R; fault = FirstFault F.spells F.fault (StandsForNothing R) }

-- the octets of P, whose values G says in words of its own
abbrev pub said_by : {V W : Type 0} → (V → List ℕ → Type 0) → Format W → Format V
said_by G P = record { spells = G; fault = P.fault }

-- ---- what a reader allocates

-- the same values, of a reader that allocates where octets have P, and there alone
abbrev pub kept_where : {V : Type 0} → (List ℕ → Type 0) → Format V → Format V
kept_where P F = record { spells = F.spells; fault = OrMemoryWhere P F.fault }

-- the same, where a value begins the octets
abbrev pub kept : {V : Type 0} → Format V → Format V
kept F = kept_where (Finds F.spells) F

-- the same, of a reader that allocates nothing
abbrev pub in_place : {V : Type 0} → Format V → Format V
in_place F = record { spells = F.spells; fault = TakesNoMemory F.fault }

-- ---- readers

-- A reader of one value of F found s and left r; the result x stands for the value view x. What it says is `Reads` of
-- both sides of F: such a value begins s, and no other; or none does, nothing changed, and F says which error it is.
abbrev pub Takes : {X V : Type 0} → (X → V) → Format V → List ℕ → List ℕ → Result X DecodeError → Type 0
Takes view F = Reads view F.spells F.fault

-- the same of an optional reader, which returns None exactly where s does not begin with the tag
abbrev pub TakesWhere : {X V : Type 0} → TagName → (X → V) → Format V → List ℕ → List ℕ → Result (Option X) DecodeError
    → Type 0
TakesWhere t view F = ReadsWhere (HasTag t) view F.spells F.fault

-- A reader of the whole rest, which has to be of P.
abbrev pub TakesAll : {X V : Type 0} → (X → V) → Format V → List ℕ → List ℕ → Result X DecodeError → Type 0
TakesAll view P = ReadsParts view P.spells P.fault

-- A reader of whole octets that are to be one value of F; and one that allocates nothing.
abbrev pub TakesWhole : {X V : Type 0} → (X → V) → Format V → List ℕ → Result X DecodeError → Type 0
TakesWhole view F = Decodes view F.spells (IsWholeFault F.spells F.fault)

abbrev pub TakesWholeInPlace : {X V : Type 0} → (X → V) → Format V → List ℕ → Result X DecodeError → Type 0
TakesWholeInPlace view F = Decodes view F.spells (NeverMemory F.spells F.fault)
