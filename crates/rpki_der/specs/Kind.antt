-- What an entry of an index keeps of a header in one word of 32 bits: in the lowest 28 the number of the tag, in the
-- next two its class (X.690 8.1.2.2, table 1), then the form, and at the top whether another value holds its value.
use Rattle.std.specs.Prelude.{ℕ, Bool, ◌+◌, ◌*◌, ◌/◌, ◌%◌, ◌^◌, ◌==◌}
use Rattle.rpki_der.specs.TagName.{TagName, tag_of}
use Rattle.rpki_der.specs.Header.{class_number, form_number}
use Rattle.rpki_der.specs.HeaderReading.{class_at}

-- the tag and the form of a header, and whether another value holds its value
pub record HeaderKind : Type 0 where
  pub tag : TagName
  pub constructed : Bool
  pub is_inner : Bool

-- a kind of these parts
abbrev pub kind : TagName → Bool → Bool → HeaderKind
kind tag constructed is_inner = record { tag = tag; constructed = constructed; is_inner = is_inner }

-- the word that keeps a kind, and the kind that a word keeps
abbrev pub word_of : HeaderKind → ℕ
word_of k =
    k.tag.number + 2 ^ 28 * class_number k.tag.class
    + 2 ^ 30 * form_number k.constructed + 2 ^ 31 * form_number k.is_inner

abbrev pub kind_of : ℕ → HeaderKind
kind_of word =
    let tag = tag_of (class_at (word / 2 ^ 28 % 4)) (word % 2 ^ 28) in
    kind tag (word / 2 ^ 30 % 2 == 1) (word / 2 ^ 31 == 1)
