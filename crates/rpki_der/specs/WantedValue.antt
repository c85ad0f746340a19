-- Values of any tag and form that is wanted: what take_value and its kin read.
use Rattle.std.specs.Prelude.{ℕ, ◌≡◌, Bool, false, List, Result, Option}
use Rattle.rpki_der.specs.declared.error.DecodeError.{DecodeError}
use Rattle.rpki_der.specs.TagName.{TagName}
use Rattle.rpki_der.specs.Reading.{IsCut, Reads, ReadsWhere}
use Rattle.rpki_der.specs.Values.{SpellsContents, HasTag, IsValueFault}

-- a value whose tag and form are wanted: its tag, its form and its contents
pub record SpellsWanted (W : TagName → Bool → Type 0) (x : TagName × Bool × List ℕ) (p : List ℕ) : Type 0 where
  pub wanted : W x.0 x.1
  pub value : SpellsContents x.0 x.1 x.2 p

-- every tag and form
abbrev pub IsAnyTag : TagName → Bool → Type 0
IsAnyTag t f = Unit {0}

-- the first error of a reader of such values
abbrev pub IsWantedFault : (TagName → Bool → Type 0) → List ℕ → DecodeError → Type 0
IsWantedFault W = IsValueFault (λ h. W h.tag h.constructed) (IsCut (SpellsWanted W))

-- A reader of such values found s and left r.
abbrev pub ReadsWanted : {X : Type 0} → (X → TagName × Bool × List ℕ) → (TagName → Bool → Type 0) → List ℕ → List ℕ
    → Result X DecodeError → Type 0
ReadsWanted view W = Reads view (SpellsWanted W) (IsWantedFault W)

-- any tag, in primitive form
abbrev pub IsPrimitive : TagName → Bool → Type 0
IsPrimitive t f = f ≡ false

-- this tag, in either form
abbrev pub IsTagged : TagName → TagName → Bool → Type 0
IsTagged tag t f = t ≡ tag

-- this tag in this form
abbrev pub IsFormed : TagName → Bool → TagName → Bool → Type 0
IsFormed tag form t f = (t ≡ tag) × (f ≡ form)

-- An optional reader of values of this tag found s and left r: it returns None exactly where s does not begin with it.
abbrev pub ReadsTaggedWhere : {X : Type 0} → (X → TagName × Bool × List ℕ) → TagName → List ℕ → List ℕ
    → Result (Option X) DecodeError → Type 0
ReadsTaggedWhere view t = ReadsWhere (HasTag t) view (SpellsWanted (IsTagged t)) (IsWantedFault (IsTagged t))
