-- Serial numbers: their octets, their texts, and tables of them.
use Rattle.std.specs.Prelude.{◌≡◌, ◌⊎◌, ℕ, List, length, ◌≤◌, ◌<◌, ◌^◌, [], slice_index, ◌++◌, map, take, drop, Result}
use Rattle.std.specs.Prelude.{Ok, Err}
use Rattle.rpki_der.specs.declared.error.DecodeError.{DecodeError}
use Rattle.rpki_der.specs.Number.{number_of, AreOctets}
use Rattle.rpki_time.specs.Serial.{SpellsSerial, IsSerialFault, IsLong}
use Rattle.rpki_c.specs.Whole.{IsRefused, NeverMemory}
use Rattle.std.specs.Fmt.{decimal}
use Rattle.std.specs.Str.Parse.{IsNumeral, digits_value}
use Rattle.rpki_c.specs.Status.{content, too_small}
use Rattle.rpki_c.specs.Stored.{IsStored}
use Rattle.rpki_c.specs.Uri.{IsUnwritten}
use Rattle.std.specs.List.{AllByRecursion}
use Rattle.std.specs.List.Sorted.{IsSorted, IsPermutation}
use Rattle.std.specs.Cmp.Lexicographic.{slice_cmp}
use Rattle.std.specs.Ordering.{nat_cmp}
use Rattle.rpki_der.specs.Reading.{SpellsNothing}
use Rattle.rpki_crl.specs.Crl.{Entry, each_entry}
use Rattle.rpki_crl.specs.CrlView.{AreEntriesFault}
use Rattle.rpki_c.specs.Filled.{IsUnfilled}

-- ---- What a status says of the octets of a serial number

-- the error of a reader of one serial number and nothing else
abbrev pub IsWholeSerialFault : List ℕ → DecodeError → Type 0
IsWholeSerialFault = NeverMemory SpellsSerial IsSerialFault

-- the octets are an INTEGER of the number that the twenty octets write
pub record HasSerial (s twenty : List ℕ) : Type 0 where
  pub spelled : SpellsSerial (number_of twenty) s
  pub size : length twenty ≡ 20

-- Status 0: the octets are a serial number, and its twenty octets were written. Else the number of the error, and
-- nothing is written.
abbrev pub IsSerialRead : List ℕ → ℕ → List ℕ → List ℕ → Type 0
IsSerialRead s status old new =
    ((status ≡ 0) × HasSerial s new) ⊎ (IsRefused SpellsSerial IsWholeSerialFault s status × (new ≡ old))

-- ---- What a status says of the decimal digits of a serial number, and of its octets

-- Where the first bit is zero, the decimal digits of the number are stored. Else the status is 5, and nothing was
-- written.
abbrev pub IsDecimalWritten : List ℕ → ℕ → List ℕ → List ℕ → ℕ → ℕ → Type 0
IsDecimalWritten twenty status old new before after =
    ((slice_index twenty 0 < 128) × IsStored (decimal (number_of twenty)) status old new after)
    ⊎ ((128 ≤ slice_index twenty 0) × (status ≡ content) × IsUnwritten old new before after)

-- the text is the decimal number of a serial number
abbrev pub IsSerialNumeral : List ℕ → Type 0
IsSerialNumeral text = IsNumeral 10 text × (digits_value 10 text < 2 ^ 159)

-- Status 0: the text is a decimal number, and its twenty octets were written. 5: it is none that a serial number may
-- be, and nothing was written.
abbrev pub IsDecimalRead : List ℕ → ℕ → List ℕ → List ℕ → Type 0
IsDecimalRead text status old new =
    ((status ≡ 0) × IsSerialNumeral text × (number_of new ≡ digits_value 10 text) × (length new ≡ 20))
    ⊎ ((status ≡ content) × (IsSerialNumeral text → ⊥) × (new ≡ old))

-- Status 0: the twenty octets of the same number were written. 5: there are no octets, or too many, and nothing was
-- written.
abbrev pub IsNumberRead : List ℕ → ℕ → List ℕ → List ℕ → Type 0
IsNumberRead octets status old new =
    ((status ≡ 0) × (number_of new ≡ number_of octets) × (length new ≡ 20))
    ⊎ ((status ≡ content) × ((octets ≡ []) ⊎ IsLong octets) × (new ≡ old))

-- ---- A sorted table of the serial numbers of a revocation list's entries

-- twenty octets
pub record IsTwenty (t : List ℕ) : Type 0 where
  pub size : length t ≡ 20
  pub octets : AreOctets t

-- the serial number of an entry
abbrev pub serial_of : Entry → ℕ
serial_of x = x.0

-- the twenty octets of the serial number of each entry, in the order of the entries
pub record AreSerials (xs : List Entry) (serials : List (List ℕ)) : Type 0 where
  pub numbers : map number_of serials ≡ map serial_of xs
  pub twenty : AllByRecursion IsTwenty serials

-- the same, sorted by their octets
pub record IsSerialTable (xs : List Entry) (table : List (List ℕ)) : Type 0 where
  pub serials : List (List ℕ)
  pub are : AreSerials xs serials
  pub sorted : IsSorted (slice_cmp nat_cmp) table
  pub same : IsPermutation serials table

-- Ok: all of s is entries. Else the error is that of the first that isn't one.
abbrev pub AreEntriesRead : List ℕ → Result (Unit {0}) DecodeError → Type 0
AreEntriesRead s (Ok u) = (xs : List Entry) × each_entry.spells xs s
AreEntriesRead s (Err e) = SpellsNothing each_entry.spells s × AreEntriesFault s e

-- the entries that the octets are, and their serial numbers in their order, as far as the array has room for all
pub record AreWritten (s : List ℕ) (count : ℕ) (old new : List (List ℕ)) : Type 0 where
  pub entries : List Entry
  pub spelled : each_entry.spells entries s
  pub serials : List (List ℕ)
  pub are : AreSerials entries serials
  pub counted : count ≡ length entries
  pub array : count ≤ length old → new ≡ serials ++ drop count old

-- the table of the entries begins the array, whose rest stays as it was
pub record IsTabled (xs : List Entry) (old new : List (List ℕ)) (count : ℕ) : Type 0 where
  pub room : length xs ≤ length old
  pub table : IsSerialTable xs (take count new)
  pub behind : drop count new ≡ drop count old

-- Status 0: the octets are entries, and their table was written. 9: they are more entries than the array has places.
-- How many they are is told in both cases. Else the number of the error, and nothing is written.
abbrev pub AreTabled : List ℕ → ℕ → List (List ℕ) → List (List ℕ) → ℕ → ℕ → Type 0
AreTabled s status old new before after =
    ((xs : List Entry) × each_entry.spells xs s × (after ≡ length xs)
    × (((status ≡ 0) × IsTabled xs old new after) ⊎ ((status ≡ too_small) × (length old < length xs))))
    ⊎ (IsRefused each_entry.spells AreEntriesFault s status × IsUnfilled old new before after)
