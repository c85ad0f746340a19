-- The index of values: an entry for each header, at every depth, in order of place.
use Rattle.std.specs.Prelude.{◌≡◌, ℕ, ◌+◌, ◌-◌, ◌^◌, ◌<◌, ◌≤◌, Bool, true, false, List, [], ◌∷◌, ◌++◌, length, Option}
use Rattle.std.specs.Prelude.{Some, None, slice_range}
use Rattle.rpki_der.specs.TagName.{TagName, IsTag}
use Rattle.rpki_der.specs.Header.{identifier_octets, length_octets, tlv}
use Rattle.rpki_der.specs.Members.{Members, Empty, Primitive, Constructed, spell, HaveHeaders, header_count}

-- Where a header begins, where its contents begin and the place just past them; what it says; and the number of the
-- entry of the value that holds it.
pub record Entry : Type 0 where
  pub place : ℕ
  pub contents : ℕ
  pub past : ℕ
  pub tag : TagName
  pub constructed : Bool
  pub parent : Option ℕ

-- the entry of the value with these contents that begins at this place
abbrev pub entry : ℕ → Option ℕ → TagName → Bool → List ℕ → Entry
entry place parent t f c =
    let contents = place + length (identifier_octets t f ++ length_octets (length c)) in
    record { place = place; contents = contents; past = contents + length c; tag = t; constructed = f; parent = parent }

-- The entries of values that begin at this place, in sequence, in the value of this parent, where so many entries
-- come before.
abbrev pub entries : Members → ℕ → Option ℕ → ℕ → List Entry
entries Empty place parent number = []
entries (Primitive t c rest) place parent number =
    let e = entry place parent t false c in
    e ∷ entries rest e.past parent (number + 1)
entries (Constructed t ms rest) place parent number =
    let e = entry place parent t true (spell ms) in
    e ∷ (entries ms e.contents (Some number) (number + 1) ++ entries rest e.past parent (number + 1 + header_count ms))

-- this is the index of octets that are values
pub record IsIndex (octets : List ℕ) (index : List Entry) : Type 0 where
  pub members : Members
  pub legal : HaveHeaders members
  pub spelled : octets ≡ spell members
  pub is : index ≡ entries members 0 None 0

-- The header of an entry is at its place in the octets, and its contents after it.
pub record StandsAt (octets : List ℕ) (e : Entry) : Type 0 where
  pub tag : IsTag e.tag
  pub fits : e.past - e.contents < 2 ^ 32
  pub low : e.place ≤ e.contents
  pub mid : e.contents ≤ e.past
  pub high : e.past ≤ length octets
  pub is : slice_range octets e.place e.past ≡ tlv e.tag e.constructed (slice_range octets e.contents e.past)
