-- Fields: what is shown of an object, each a label and a value.
use Rattle.std.specs.Prelude.{ℕ, if◌then◌else◌, List, [], ◌∷◌, ◌++◌, codes, decimal, bytes_eq, Option, Some, None}
use Rattle.jiff.specs.Types.{DateTime}
use Rattle.rpki_fields.specs.ValueText.{time_text, seconds_text}

-- the label; the value, as a person reads it; and as JSON has it, where that isn't a string of the same text
pub record FieldParts : Type 0 where
  pub label : List ℕ
  pub value : List ℕ
  pub json : Option (List ℕ)

abbrev pub any_parts : List ℕ → List ℕ → Option (List ℕ) → FieldParts
any_parts label value json = record { label = label; value = value; json = json }

-- a field whose value is a text
abbrev pub field_parts : List ℕ → List ℕ → FieldParts
field_parts label value = any_parts label value None

-- a field whose value is this text, and this in JSON (RFC 8259)
abbrev pub json_parts : List ℕ → (value json : List ℕ) → FieldParts
json_parts label value json = any_parts label value (Some json)

-- a field whose value is a number, in decimal digits
abbrev pub number_parts : List ℕ → ℕ → FieldParts
number_parts label number = json_parts label (decimal number) (decimal number)

-- a field whose value is a time, in JSON the seconds since 1970
abbrev pub time_parts : List ℕ → DateTime → FieldParts
time_parts label t = json_parts label (time_text t) (seconds_text t)

-- a field whose value is a size in decimal digits, or the word for one that isn't known
abbrev pub size_parts : List ℕ → List ℕ → FieldParts
size_parts label size =
    if bytes_eq size (codes "malformed") then field_parts label size else json_parts label size size

-- a field that may be left out
abbrev pub field_if : List ℕ → Option (List ℕ) → List FieldParts
field_if label None = []
field_if label (Some value) = field_parts label value ∷ []

abbrev pub time_if : List ℕ → Option DateTime → List FieldParts
time_if label None = []
time_if label (Some t) = time_parts label t ∷ []

abbrev pub size_if : List ℕ → Option (List ℕ) → List FieldParts
size_if label None = []
size_if label (Some size) = size_parts label size ∷ []

-- what is shown of an extension that is not as this section of the profile has it: of another value, or not as critical
abbrev pub other_text : (section : List ℕ) → List ℕ
other_text section = codes "not of the RPKI's profile (" ++ section ++ codes ")"
