-- Payloads as another validator lists them: in csv, as of rpki-client and Routinator, or in JSON, as of both.
use Rattle.std.specs.Prelude.{◌≡◌, ◌⊎◌, ◌++◌, ◌==◌, ◌||◌, ◌<◌, ◌^◌, ℕ, Bool, false, List, [], ◌∷◌, All, codes, map}
use Rattle.std.specs.Prelude.{IsUtf8}
use Rattle.std.specs.Prelude.{Some, None, MatchOption, ⊤, bytes_eq, if◌then◌else◌, not, option_and_then, option_map}
use Rattle.std.specs.Bool.{MatchBool}
use Rattle.std.specs.Char.{to_ascii_lowercase}
use Rattle.std.specs.List.{Contains, filter}
use Rattle.std.specs.Option.{unwrap_or}
use Rattle.std.specs.Str.Parse.{IsNumeral, digits_value, without_leading_plus}
use Rattle.csv.specs.Reading.{AreRecords, Reached, default_config, strip_bom}
use Rattle.csv.specs.Records.{AllText, field_at}
use Rattle.csv.specs.declared.error.ErrorKind.{ErrorKind}
use Rattle.csv.specs.declared.error.ErrorKind.TheVariants as kind
use Rattle.csv.specs.declared.parser.State.{State}
use Rattle.csv.specs.declared.parser.State.TheVariants.{StartRecord}
use Rattle.serde_json.specs.Data.{Data}
use Rattle.serde_json.specs.Find.{as_array, as_str, get}
use Rattle.serde_json.specs.Read.{read as read_text}
use Rattle.serde_json.specs.View.{items_of, view}
use Rattle.serde_json.specs.declared.value.Value.{Value}
use Rattle.rpki_resources.specs.declared.as_text.Asn.{Asn}
use Rattle.rpki_resources.specs.declared.ip_text.Prefix.{Prefix}
use Rattle.rpki_resources.specs.AsRead.{IsAsnText}
use Rattle.rpki_resources.specs.IpRead.{IsPrefixText}
use Rattle.rpki_payloads.specs.declared.payload_list.ListError.{ListError}
use Rattle.rpki_payloads.specs.declared.payload_list.ListError.TheVariants as E
use Rattle.rpki_payloads.specs.declared.vrp.Vrp.{Vrp}
use Rattle.rpki_payloads.specs.ExceptionsText.{AreListed, IsMember, IsNumberIn, IsPrefixIn, IsVrpWith}
use Rattle.rpki_payloads.specs.Exceptions.{AreEach, IsFirstOther}
use Rattle.rpki_payloads.specs.Sets.{IsSetOf}
use Rattle.rpki_payloads.specs.Vrp.{vrp_cmp}

-- ---- csv (RFC 4180)

-- the text is a number of an AS
abbrev pub IsAsText : List ℕ → ℕ → Type 0
IsAsText text n = (a : Asn) × IsAsnText text a × (n ≡ a.0)

-- the text is a number below 2^32 in decimal digits
pub record IsLengthText (text : List ℕ) (n : ℕ) : Type 0 where
  pub digits : IsNumeral 10 (without_leading_plus text)
  pub value : digits_value 10 (without_leading_plus text) ≡ n
  pub below : n < 2 ^ 32

-- the texts of an AS number, a prefix and a maximum length are those of the payload
abbrev pub AreFields : (number text digits : List ℕ) → Vrp → Type 0
AreFields number text digits v =
    (asn : ℕ) × (prefix : Prefix) × (longest : ℕ) × IsAsText number asn × IsPrefixText text prefix
    × IsLengthText digits longest × IsVrpWith prefix (Some longest) asn v

-- they are the first three of a row of the payload; what follows isn't read, as the name of a locator, or an end
abbrev pub IsRow : List (List ℕ) → Vrp → Type 0
IsRow row v =
    (number : List ℕ) × (text : List ℕ) × (digits : List ℕ) × (field_at row 0 ≡ Some number)
    × (field_at row 1 ≡ Some text) × (field_at row 2 ≡ Some digits) × AreFields number text digits v

-- a row whose first field is `ASN`, in any case, has titles
abbrev pub is_title : List ℕ → Bool
is_title field = bytes_eq (map to_ascii_lowercase field) (codes "asn")

abbrev pub has_titles : List (List ℕ) → Bool
has_titles row = unwrap_or (option_map is_title (field_at row 0)) false

-- a row adds its payload; titles add nothing
abbrev pub AddsRow : List (List ℕ) → (old new : List Vrp) → Type 0
AddsRow row old new =
    MatchBool (has_titles row) (new ≡ old) ((v : Vrp) × IsRow row v × (new ≡ old ++ v ∷ []))

-- each row is in UTF-8, and but for titles that of a payload
abbrev pub AreRows : List (List (List ℕ)) → List Vrp → Type 0
AreRows rows vrps = All AllText rows × AreEach IsRow (filter (λ row. not (has_titles row)) rows) vrps

abbrev pub AreInCsv : List ℕ → List Vrp → Type 0
AreInCsv octets vrps =
    (rows : List (List (List ℕ))) × AreRecords default_config StartRecord (strip_bom octets) rows × AreRows rows vrps

-- the row isn't in UTF-8; or it has no titles, and is that of no payload
abbrev pub IsOtherRow : List (List ℕ) → Type 0
IsOtherRow row = (AllText row → ⊥) ⊎ ((has_titles row ≡ false) × ((v : Vrp) → IsRow row v → ⊥))

-- after rows of payloads or titles comes one that is neither
pub record HasOtherRow (octets : List ℕ) : Type 0 where
  pub rows : List (List (List ℕ))
  pub vrps : List Vrp
  pub are : AreRows rows vrps
  pub other : List (List ℕ)
  pub is_other : IsOtherRow other
  pub state : State
  pub rest : List ℕ
  pub reached : Reached default_config StartRecord (strip_bom octets) (rows ++ other ∷ []) state rest

-- ---- JSON: an object with an array `roas` of objects

-- an AS number: a number, or the text of one
abbrev pub IsAsIn : Data → ℕ → Type 0
IsAsIn d n = MatchOption (as_str d) (IsNumberIn d n) (λ text. IsAsText text n)

pub record IsElement (d : Data) (v : Vrp) : Type 0 where
  pub asn : ℕ
  pub asn_there : IsMember (codes "asn") IsAsIn d asn
  pub prefix : Prefix
  pub prefix_there : IsMember (codes "prefix") IsPrefixIn d prefix
  pub longest : ℕ
  pub longest_there : IsMember (codes "maxLength") IsNumberIn d longest
  pub payload : IsVrpWith prefix (Some longest) asn v

abbrev pub AreInJson : List ℕ → List Vrp → Type 0
AreInJson octets vrps =
    IsUtf8 octets × (d : Data) × (read_text octets ≡ Some d) × AreListed (codes "roas") IsElement d vrps

-- ---- both

-- the first octet that is no white space (RFC 8259 2) is a brace
abbrev pub is_space : ℕ → Bool
is_space octet = octet == 32 || (octet == 9 || (octet == 10 || octet == 13))

abbrev pub is_object : List ℕ → Bool
is_object [] = false
is_object (c ∷ cs) = if is_space c then is_object cs else c == 123

-- the octets list these payloads, as often and in the order as they do: in JSON, if they begin with a brace; else in
-- csv
abbrev pub Lists : List ℕ → List Vrp → Type 0
Lists octets all = MatchBool (is_object octets) (AreInJson octets all) (AreInCsv octets all)

-- ---- what is wrong with other octets; where memory fails, nothing is said of them

-- of a row
abbrev pub IsRowFault : List (List ℕ) → ListError → Type 0
IsRowFault row (E.Line n) = (has_titles row ≡ false) × ((v : Vrp) → IsRow row v → ⊥)
IsRowFault row E.OutOfMemory = ⊤
IsRowFault row e = ⊥

-- of the reader of csv
abbrev pub IsReadFault : ErrorKind → ListError → Type 0
IsReadFault (kind.Utf8 pos err) e = (n : ℕ) × (e ≡ E.Line n)
IsReadFault k e = e ≡ E.OutOfMemory

abbrev pub IsCsvFault : List ℕ → ListError → Type 0
IsCsvFault octets (E.Line n) = HasOtherRow octets
IsCsvFault octets E.OutOfMemory = ⊤
IsCsvFault octets e = ⊥

-- of the elements of the array
abbrev pub IsElementFault : List Value → ListError → Type 0
IsElementFault values (E.Element i) = IsFirstOther (λ v. IsElement (view v)) values i
IsElementFault values E.OutOfMemory = ⊤
IsElementFault values e = ⊥

-- of a value of JSON: it has no array `roas`, or one of its elements is no payload
abbrev pub IsRoasFault : Data → ListError → Type 0
IsRoasFault d E.Roas = option_and_then as_array (get (codes "roas") d) ≡ None
IsRoasFault d (E.Element i) =
    (ds : List Data) × (option_and_then as_array (get (codes "roas") d) ≡ Some (items_of ds))
    × IsFirstOther IsElement ds i
IsRoasFault d E.OutOfMemory = ⊤
IsRoasFault d e = ⊥

abbrev pub IsJsonFault : List ℕ → ListError → Type 0
IsJsonFault octets E.Json = IsUtf8 octets → read_text octets ≡ None
IsJsonFault octets E.OutOfMemory = ⊤
IsJsonFault octets e = IsUtf8 octets × (d : Data) × (read_text octets ≡ Some d) × IsRoasFault d e

abbrev pub IsListFault : List ℕ → ListError → Type 0
IsListFault octets e = MatchBool (is_object octets) (IsJsonFault octets e) (IsCsvFault octets e)

-- ---- each once, in order
abbrev pub AreListedIn : List ℕ → List Vrp → Type 0
AreListedIn octets vrps = (all : List Vrp) × Lists octets all × IsSetOf vrp_cmp (Contains all) vrps
