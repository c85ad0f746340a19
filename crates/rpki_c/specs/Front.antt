-- What a status says of the value at the front of octets.
use Rattle.std.specs.Prelude.{◌≡◌, ◌≤◌, ◌⊎◌, ℕ, List, drop, length, take, ◌≢◌, ◌+◌, ◌<◌, ◌^◌, true, [], ◌++◌, ◌-◌, ◌∷◌}
use Rattle.std.specs.Prelude.{map, Option, Some, None, slice_get}
use Rattle.rpki_der.specs.declared.tag.Header.{Header}
use Rattle.rpki_der.specs.Header.{class_number, tlv}
use Rattle.rpki_der.specs.Reading.{Accepts, OrMemoryWhere, Spells}
use Rattle.rpki_der.specs.Values.{SpellsHeader, IsHeaderFault}
use Rattle.rpki_c.specs.declared.headers.HeaderParts.{HeaderParts}
use Rattle.rpki_c.specs.Whole.{IsFrontRefused}
use Rattle.rpki_der.specs.Members.{SpellsValue, Members, spell, HaveHeaders, IsValue}
use Rattle.rpki_der.specs.NestedFault.{IsCaptureFault, IsNestedFault}
use Rattle.rpki_der.specs.Walk.{HasConstructed, CountsHeaders}
use Rattle.rpki_c.specs.declared.walks.Walked.{Walked}
use Rattle.rpki_der.specs.declared.error.DecodeError.{DecodeError}
use Rattle.rpki_der.specs.Error.{error_number}
use Rattle.rpki_der.specs.TagName.{TagName, IsTag}
use Rattle.rpki_c.specs.Status.{no_answer}
use Rattle.rpki_der.specs.Index.{Entry as IndexEntry, IsIndex}
use Rattle.rpki_c.specs.declared.index.Entry.{Entry}
use Rattle.rpki_c.specs.Filled.{IsFilled, IsUnfilled}

-- ---- What a status says of the octets of a header

-- the parts are those of the header
pub record AreParts (h : Header) (p : HeaderParts) : Type 0 where
  pub class_is : p.tag_class ≡ class_number h.tag.class
  pub number : p.number ≡ h.tag.number
  pub form : p.constructed ≡ h.constructed
  pub length_is : p.length ≡ h.length

-- the first octets are a header of these parts
pub record HasHeader (s : List ℕ) (p : HeaderParts) : Type 0 where
  pub header : Header
  pub within : p.size ≤ length s
  pub read : Accepts SpellsHeader s header (drop p.size s)
  pub parts : AreParts header p

-- Status 0: the octets begin with a header of these parts. Else the number of the error, and nothing is written.
abbrev pub IsHeaderRead : List ℕ → ℕ → HeaderParts → HeaderParts → Type 0
IsHeaderRead s status old new =
    ((status ≡ 0) × HasHeader s new) ⊎ (IsFrontRefused SpellsHeader IsHeaderFault s status × (new ≡ old))

-- ---- What a status says of the value at the front of octets

-- a value begins s, and takes this many octets with this many headers
pub record HasWalked (s : List ℕ) (w : Walked) : Type 0 where
  pub within : w.size ≤ length s
  pub read : Accepts SpellsValue s (take w.size s) (drop w.size s)
  pub counted : CountsHeaders s (drop w.size s) w.headers

-- Status 0: a value begins the octets. Else the number of the error, the leftmost, and nothing is written.
abbrev pub IsWalked : List ℕ → ℕ → Walked → Walked → Type 0
IsWalked s status old new =
    ((status ≡ 0) × HasWalked s new)
    ⊎ (IsFrontRefused SpellsValue (OrMemoryWhere HasConstructed IsCaptureFault) s status × (new ≡ old))

-- ---- Where octets that no value begins go wrong, from the left (X.690 8.1.1, 8.1.2.5)

-- The fault e of s (specs/NestedFault.antt of rpki_der), and the place where the value begins that isn't one.
pub data IsFaultAt : List ℕ → DecodeError → ℕ → Type 0 where
  -- no header begins them
  AtHeader : {s : List ℕ} {e : DecodeError} → s ≢ [] → IsHeaderFault s e → IsFaultAt s e 0
  -- a header begins them, and the contents that it announces are not all there
  AtContents : {s : List ℕ} (h : Header) (r : List ℕ) → Spells SpellsHeader s h r → length r < h.length
      → IsFaultAt s DecodeError.Truncated 0
  -- a header and members, the octets `front`, and then octets that have this fault
  Inside : {s : List ℕ} {e : DecodeError} {place : ℕ} (t : TagName) (ms : Members) (front r after : List ℕ) → IsTag t
      → length (spell ms ++ r) < 2 ^ 32 → HaveHeaders ms → tlv t true (spell ms ++ r) ≡ front ++ r
      → s ≡ tlv t true (spell ms ++ r) ++ after → IsFaultAt r e place → IsFaultAt s e (length front + place)

-- no value begins s, and this is the place: 0 where there are no octets; else that of the fault, which a walk returns
abbrev pub IsFaultPlace : List ℕ → ℕ → Type 0
IsFaultPlace s n = ((s ≡ []) × (n ≡ 0)) ⊎ ((e : DecodeError) × IsNestedFault s e × IsFaultAt s e n)

-- Status 0: no value begins the octets, and the place was written. 10: a value begins them. 7: allocation failed.
abbrev pub IsFaultTold : List ℕ → ℕ → ℕ → ℕ → Type 0
IsFaultTold s status old new =
    ((status ≡ 0) × IsFaultPlace s new)
    ⊎ ((status ≡ no_answer) × ((n : ℕ) × IsValue (take n s)) × (new ≡ old))
    ⊎ ((status ≡ error_number DecodeError.OutOfMemory) × HasConstructed s × (new ≡ old))

-- ---- What a status says of the index of the value at the front of octets

-- the number of the entry of the value around; SIZE_MAX where there is none
abbrev pub parent_number : Option ℕ → ℕ
parent_number None = 2 ^ 64 - 1
parent_number (Some number) = number

-- how an entry is passed
abbrev pub passed : IndexEntry → Entry
passed e = record {
  start = e.place;
  contents = e.contents;
  end = e.past;
  parent = parent_number e.parent;
  number = e.tag.number;
  tag_class = class_number e.tag.class;
  constructed = e.constructed;
}

-- how the entry of a header of this size is passed, at this place, in the value whose entry has this number
abbrev pub slot_at : ℕ → ℕ → Header → ℕ → Entry
slot_at place size h parent = record {
  start = place;
  contents = place + size;
  end = place + size + h.length;
  parent = parent;
  number = h.tag.number;
  tag_class = class_number h.tag.class;
  constructed = h.constructed;
}

-- From the entry of this number up through those of the values around it, each of which ends at this place, to one that
-- doesn't, or past the outermost.
abbrev pub Climbs : List Entry → ℕ → ℕ → List Entry → ℕ → Type 0
Climbs es place number [] q =
    (number ≡ q) × ((e : Entry) → number < 2 ^ 64 - 1 → slice_get es number ≡ Some e → e.end ≢ place)
Climbs es place number (e ∷ ended) q =
    (slice_get es number ≡ Some e) × (e.end ≡ place) × ((e.parent ≡ 2 ^ 64 - 1) ⊎ (e.parent < number))
    × Climbs es place e.parent ended q

-- of the entry of this number and those around it, the innermost that doesn't end at this place is q
pub record Closes (es : List Entry) (place number q : ℕ) : Type 0 where
  pub ended : List Entry
  pub climbs : Climbs es place number ended q

-- a value begins s, and this is the index of exactly its octets
pub record IsFrontIndex (s : List ℕ) (index : List IndexEntry) : Type 0 where
  pub size : ℕ
  pub within : size ≤ length s
  pub read : Accepts SpellsValue s (take size s) (drop size s)
  pub is : IsIndex (take size s) index

-- Status 0 or 9: the index of the value at the front is filled in. Else the number of the error, the leftmost, and
-- nothing is written.
abbrev pub IsIndexed : List ℕ → ℕ → List Entry → List Entry → ℕ → ℕ → Type 0
IsIndexed s status old new before after =
    ((index : List IndexEntry) × IsFrontIndex s index × IsFilled (map passed index) status old new after)
    ⊎ (IsFrontRefused SpellsValue (OrMemoryWhere HasConstructed IsCaptureFault) s status
    × IsUnfilled old new before after)
