-- Times as values (X.690 11.7, 11.8; RFC 5280 4.1.2.5).
use Rattle.std.specs.Prelude.{◌≡◌, ◌⊎◌, ℕ, Bool, true, false, List, codes}
use Rattle.jiff.specs.Types.{DateTime}
use Rattle.rpki_der.specs.declared.error.DecodeError.{DecodeError}
use Rattle.rpki_der.specs.declared.error.DecodeError.TheVariants.{Truncated, BadTag, BadLength, Unexpected, Content}
use Rattle.rpki_der.specs.declared.error.DecodeError.TheVariants.{Trailing, OutOfMemory}
use Rattle.rpki_der.specs.Prelude.{text_of, TagName, utc_time, generalized_time, tlv, Spells, SpellsContents, HasTag}
use Rattle.rpki_der.specs.Prelude.{SpellsWanted, IsPrimitive, IsWantedFault, Format, leaf, Tree}
use Rattle.rpki_der.specs.Tree.Tree.{Primitive}
use Rattle.rpki_time.specs.TimeText.{utc_text, generalized_text, is_utc_year, ReadsAsUtc, ReadsAsGeneralized}

-- the text under the tag reads as the time
abbrev pub ReadsAs : TagName → List ℕ → DateTime → Type 0
ReadsAs tag text t = ((tag ≡ utc_time) × ReadsAsUtc text t) ⊎ ((tag ≡ generalized_time) × ReadsAsGeneralized text t)

-- a primitive value of one of the two tags, whose text reads as the time
pub record SpellsTime (t : DateTime) (p : List ℕ) : Type 0 where
  pub tag : TagName
  pub text : List ℕ
  pub value : SpellsContents tag false text p
  pub reads : ReadsAs tag text t

-- s begins with a primitive value that reads as no time
abbrev pub HasNoTime : List ℕ → Type 0
HasNoTime s = (x : TagName × Bool × List ℕ) × (r : List ℕ) × Spells (SpellsWanted IsPrimitive) s x r
    × ((t : DateTime) → ReadsAs x.0 x.2 t → ⊥)

-- The first error: that of the header; then the constructed form, of any tag; then contents that are longer than the
-- rest; then a primitive value, of any tag, that is no time.
abbrev pub IsTimeFault : List ℕ → DecodeError → Type 0
IsTimeFault s Truncated = IsWantedFault IsPrimitive s Truncated
IsTimeFault s BadTag = IsWantedFault IsPrimitive s BadTag
IsTimeFault s BadLength = IsWantedFault IsPrimitive s BadLength
IsTimeFault s Unexpected = IsWantedFault IsPrimitive s Unexpected
IsTimeFault s (Content e) = (text_of e ≡ codes "malformed time value") × HasNoTime s
IsTimeFault s Trailing = ⊥
IsTimeFault s OutOfMemory = ⊥

abbrev pub time : Format DateTime
time = record { spells = SpellsTime; fault = IsTimeFault }

-- generalized time alone, as manifests have it (RFC 9286 4.2.1)
abbrev pub generalized : Format DateTime
generalized = leaf generalized_time (λ t text. ReadsAsGeneralized text t)

-- s begins with the identifier octets of one of the two tags, in one form or the other
abbrev pub HasTimeTag : List ℕ → Type 0
HasTimeTag s = HasTag utc_time s ⊎ HasTag generalized_time s

-- what is written as UTC time, and as generalized time
abbrev pub utc_octets : DateTime → List ℕ
utc_octets t = tlv utc_time false (utc_text t)

abbrev pub generalized_octets : DateTime → List ℕ
generalized_octets t = tlv generalized_time false (generalized_text t)

-- what is written of a time: UTC time in its years, and generalized time in the others (RFC 5280 4.1.2.5)
abbrev pub octets_where : Bool → DateTime → List ℕ
octets_where true t = utc_octets t
octets_where false t = generalized_octets t

abbrev pub time_octets : DateTime → List ℕ
time_octets t = octets_where (is_utc_year t.date.year) t

-- the same as a tree: one primitive value
abbrev pub tree_where : Bool → DateTime → Tree
tree_where true t = Primitive utc_time (utc_text t)
tree_where false t = Primitive generalized_time (generalized_text t)

abbrev pub time_tree : DateTime → Tree
time_tree t = tree_where (is_utc_year t.date.year) t
