-- What a status says of a value that is taken off a span.
use Rattle.std.specs.Prelude.{◌≡◌, ◌<◌, ◌⊎◌, ℕ, Bool, true, false, List, []}
use Rattle.rpki_der.specs.Prelude.{Format, SpellsContents, IsContentsFault, HasTag, TagName}
use Rattle.rpki_der.specs.TagName.{IsTag}
use Rattle.rpki_der.specs.Header.{lead}
use Rattle.rpki_c.specs.declared.span.Span.{Span}
use Rattle.rpki_c.specs.Span.{IsTakenOff}
use Rattle.rpki_c.specs.Status.{bad_tag}

-- the identifier octet is that of the tag, whose number is below 32, and of the form (X.690 8.1.2.2 to 8.1.2.5)
pub record IsNamedBy (identifier : ℕ) (t : TagName) (constructed : Bool) : Type 0 where
  pub legal : IsTag t
  pub number : t.number < 32
  pub octet : identifier ≡ lead t constructed t.number

-- the tag universal 0, in either form, which no value has (X.690 8.1.2.2)
abbrev pub IsOfNoTag : ℕ → Type 0
IsOfNoTag identifier = (identifier ≡ 0) ⊎ (identifier ≡ 32)

-- values of this tag and form, by their contents
abbrev pub value_of : TagName → Bool → Format (List ℕ)
value_of t constructed = record {
  spells = SpellsContents t constructed;
  fault = IsContentsFault t constructed;
}

-- a value of this tag and form is taken off the span, and its contents are handed out
abbrev pub IsTakenBy : TagName → Bool → ℕ → Span → Span → Span → Span → Type 0
IsTakenBy t constructed = IsTakenOff (value_of t constructed) (λ contents p. p.octets.now ≡ contents)

-- Status 2: the identifier is of no tag, and nothing is written. Else a value of the tag and form that it names is
-- taken.
abbrev pub IsTaken : ℕ → ℕ → Span → Span → Span → Span → Type 0
IsTaken identifier status before after was is =
    ((status ≡ bad_tag) × IsOfNoTag identifier × (after ≡ before) × (is ≡ was))
    ⊎ ((t : TagName) × (f : Bool) × IsNamedBy identifier t f × IsTakenBy t f status before after was is)

-- contents, and whether they are there
abbrev pub Found : Type 0
Found = Span × Bool

-- The tag doesn't begin the span: nothing is taken, and there are no contents. Or it does, and a value of this form is
-- taken.
abbrev pub IsOptionTakenBy : TagName → Bool → ℕ → Span → Span → Found → Found → Type 0
IsOptionTakenBy t constructed status before after was is =
    ((HasTag t before.octets.now → ⊥) × (status ≡ 0) × (after ≡ before) × (is.0.octets.now ≡ []) × (is.1 ≡ false))
    ⊎ (HasTag t before.octets.now
    × IsTakenOff (value_of t constructed) (λ contents p. (p.0.octets.now ≡ contents) × (p.1 ≡ true)) status before after
    was is)

-- the same of the tag and form that the identifier names; status 2: it is of no tag
abbrev pub IsOptionTaken : ℕ → ℕ → Span → Span → Found → Found → Type 0
IsOptionTaken identifier status before after was is =
    ((status ≡ bad_tag) × IsOfNoTag identifier × (after ≡ before) × (is ≡ was))
    ⊎ ((t : TagName) × (f : Bool) × IsNamedBy identifier t f × IsOptionTakenBy t f status before after was is)
