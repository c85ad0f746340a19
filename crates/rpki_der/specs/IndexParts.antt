-- How an index is made, and how its entries are kept.
use Rattle.std.specs.Prelude.{◌≡◌, ℕ, ◌+◌, Bool, true, false, List, [], ◌∷◌, ◌++◌, length, Option, Some, None}
use Rattle.std.specs.Prelude.{slice_get}
use Rattle.rpki_der.specs.declared.tag.Header.{Header}
use Rattle.rpki_der.specs.Header.{identifier_octets, length_octets}
use Rattle.rpki_der.specs.Kind.{HeaderKind}
use Rattle.rpki_der.specs.Members.{Members, spell, HaveHeaders, count}
use Rattle.rpki_der.specs.Index.{Entry, entries}

-- These octets are one value, and its entries were added, its place after so many octets.
pub record IsListed (before : ℕ) (old : List Entry) (octets : List ℕ) (new : List Entry) : Type 0 where
  pub members : Members
  pub legal : HaveHeaders members
  pub spelled : octets ≡ spell members
  pub counted : count members ≡ 1
  pub is : new ≡ old ++ entries members before None (length old)

-- a parent, as a number and whether there is one
abbrev pub parent_of : Bool → ℕ → Option ℕ
parent_of true n = Some n
parent_of false n = None

abbrev pub holder_of : Option ℕ → ℕ
holder_of None = 0
holder_of (Some n) = n

abbrev pub is_held : Option ℕ → Bool
is_held None = false
is_held (Some n) = true

-- how many octets a header has, with contents of this length
abbrev pub header_size : HeaderKind → ℕ → ℕ
header_size k n = length (identifier_octets k.tag k.constructed ++ length_octets n)

-- the entry that is kept by these parts
abbrev pub entry_of : ℕ → ℕ → ℕ → HeaderKind → Entry
entry_of place holder n k =
    let contents = place + header_size k n in
    record {
      place = place;
      contents = contents;
      past = contents + n;
      tag = k.tag;
      constructed = k.constructed;
      parent = parent_of k.is_inner holder;
    }

-- the entry of a header of this size at this place
abbrev pub entry_at : ℕ → ℕ → Header → Option ℕ → Entry
entry_at place size h parent =
    let contents = place + size in
    record {
      place = place;
      contents = contents;
      past = contents + h.length;
      tag = h.tag;
      constructed = h.constructed;
      parent = parent;
    }

-- what is added of an entry, where entries are kept and where they are not
abbrev pub noted : Bool → Entry → List Entry
noted true e = e ∷ []
noted false e = []

-- What names an open value: the number of its entry, or its end where no entries are kept.
abbrev pub name_of : Bool → ℕ → ℕ → ℕ
name_of true number past = number
name_of false number past = past

-- the entry with this number ends there, after so many octets
pub record EndsAt (before : ℕ) (es : List Entry) (number end : ℕ) : Type 0 where
  pub found : Entry
  pub is : slice_get es number ≡ Some found
  pub past : found.past ≡ before + end

-- the open value with this name ends there
abbrev pub IsEnd : Bool → ℕ → List Entry → ℕ → ℕ → Type 0
IsEnd true before es name end = EndsAt before es name end
IsEnd false before es name end = name ≡ end
