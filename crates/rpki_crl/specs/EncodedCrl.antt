-- What is written of a revocation list (RFC 5280 5.1, RFC 6487 5): laws say that it is read as its normal form, which
-- has parameters of the algorithm and no parts of a second.
use Rattle.std.specs.Prelude.{◌≤◌, ◌<◌, ◌^◌, ℕ, Bool, true, false, List, [], ◌∷◌, ◌++◌, map, Option, None, Some, length}
use Rattle.jiff.specs.Types.{DateTime}
use Rattle.rpki_der.specs.Prelude.{sequence, integer, tlv, Tree, Format, only, then, optional_then}
use Rattle.rpki_der.specs.Tree.Tree.{Both, Primitive, Constructed}
use Rattle.rpki_time.specs.Time.{cut, IsTimeYear}
use Rattle.rpki_time.specs.TimeValue.{time, time_octets, time_tree}
use Rattle.rpki_time.specs.Serial.{serial_contents, serial_octets}
use Rattle.rpki.specs.Oids.{sha256_with_rsa_encryption}
use Rattle.rpki.specs.AlgorithmOctets.{algorithm_octets}
use Rattle.rpki.specs.SignedData.{SignedParts, parts_of, written_signed, IsShortSigned}
use Rattle.rpki.specs.ExtensionValue.{ExtensionParts, extension_parts, SpellsExtension, written_extension}
use Rattle.rpki_x509.specs.Authority.{identifier_tag}
use Rattle.rpki_x509.specs.Authority.{authority_key_identifier}
use Rattle.rpki_der.specs.Listed.{listed_octets, EachHas}
use Rattle.rpki_crl.specs.declared.crl_entry.CrlEntry.{CrlEntry}
use Rattle.rpki_crl.specs.Crl.{entry_of, Entry, ListExtensions, ListParts, crl_number, extensions_tag}
use Rattle.rpki_crl.specs.Crl.{entries, extensions, fields_of, tbs_cert_list, crl, crl_parts}

-- ---- the entries

abbrev pub entry_contents : Entry → List ℕ
entry_contents x = serial_octets x.0 ++ time_octets x.1

abbrev pub entry_octets : Entry → List ℕ
entry_octets x = tlv sequence true (entry_contents x)

-- the same as a tree of values
abbrev pub entry_tree : Entry → Tree
entry_tree x = Constructed sequence (Both (Primitive integer (serial_contents x.0)) (time_tree x.1))

abbrev pub written_entry : CrlEntry → List ℕ
written_entry x = entry_octets (entry_of x)

abbrev pub entries_octets : List Entry → List ℕ
entries_octets xs = listed_octets entry_octets xs

abbrev pub revoked_octets : Option (List Entry) → List ℕ
revoked_octets None = []
revoked_octets (Some xs) = tlv sequence true (entries_octets xs)

-- a number that serial numbers have, and a year that times have
abbrev pub IsEntry : Entry → Type 0
IsEntry x = (x.0 < 2 ^ 159) × IsTimeYear x.1.date.year

abbrev pub AreEntries : Option (List Entry) → Type 0
AreEntries None = Unit {0}
AreEntries (Some xs) = EachHas IsEntry xs

-- ---- the extensions: the authority key identifier, and then the number

abbrev pub authority_octets : List ℕ → List ℕ
authority_octets identifier = tlv sequence true (tlv identifier_tag false identifier)

abbrev pub authority_extension : List ℕ → ExtensionParts
authority_extension identifier = extension_parts authority_key_identifier false (authority_octets identifier)

abbrev pub number_extension : ℕ → ExtensionParts
number_extension n = extension_parts crl_number false (serial_octets n)

-- it is read as itself, and has few octets
pub record IsWrittenShort (x : ExtensionParts) : Type 0 where
  pub spelled : SpellsExtension x (written_extension x)
  pub few : length (written_extension x) ≤ 100

abbrev pub two_octets : ListExtensions → List ℕ
two_octets x =
    written_extension (authority_extension x.authority) ++ written_extension (number_extension x.number)

abbrev pub extensions_octets : ListExtensions → List ℕ
extensions_octets x = tlv extensions_tag true (tlv sequence true (two_octets x))

-- ---- what is signed

-- the INTEGER 1, the number of version 2
abbrev pub version_2 : List ℕ
version_2 = tlv integer false (1 ∷ [])

-- what follows the issuer
abbrev pub behind_octets : ListParts → List ℕ
behind_octets x =
    time_octets x.this_update
    ++ (time_octets x.next_update ++ (revoked_octets x.revoked ++ extensions_octets x.extensions))

abbrev pub list_contents : ListParts → List ℕ
list_contents x =
    version_2 ++ (algorithm_octets sha256_with_rsa_encryption true ++ (x.issuer ++ behind_octets x))

abbrev pub list_octets : ListParts → List ℕ
list_octets x = tlv sequence true (list_contents x)

abbrev pub IsShortBehind : ListParts → Type 0
IsShortBehind x = length (behind_octets x) < 2 ^ 32

-- a length announces the contents
abbrev pub IsShortList : ListParts → Type 0
IsShortList x = length (list_contents x) < 2 ^ 32

-- ---- what is read of it

abbrev pub normal_entry : Entry → Entry
normal_entry x = (x.0, cut x.1)

abbrev pub normal_revoked : Option (List Entry) → Option (List Entry)
normal_revoked None = None
normal_revoked (Some xs) = Some (map normal_entry xs)

-- what follows the issuer, as a format and as it is read
abbrev pub Behind : Type 0
Behind = DateTime × (DateTime × (Option (List Entry) × ListExtensions))

abbrev pub behind_issuer : Format Behind
behind_issuer = then time (then time (optional_then sequence entries (only extensions)))

abbrev pub normal_behind : ListParts → Behind
normal_behind x = (cut x.this_update, (cut x.next_update, (normal_revoked x.revoked, x.extensions)))

-- it is read back
abbrev pub IsBehindReadBack : ListParts → Type 0
IsBehindReadBack x = AreEntries x.revoked → IsShortBehind x → behind_issuer.spells (normal_behind x) (behind_octets x)

abbrev pub normal_list : ListParts → ListParts
normal_list x = record {
  algorithm = true;
  issuer = x.issuer;
  this_update = cut x.this_update;
  next_update = cut x.next_update;
  revoked = normal_revoked x.revoked;
  extensions = x.extensions;
}

abbrev pub IsListReadBack : ListParts → Type 0
IsListReadBack x = tbs_cert_list.spells (fields_of (normal_list x)) (list_octets x)

-- ---- a revocation list: what is signed, the algorithm with its parameters, and this signature

abbrev pub rpki_algorithm : Bool → List ℕ
rpki_algorithm has_parameters = algorithm_octets sha256_with_rsa_encryption true

abbrev pub list_signed : ListParts → List ℕ → SignedParts Bool
list_signed x value = parts_of (list_octets x) true value

abbrev pub crl_octets : ListParts → List ℕ → List ℕ
crl_octets x value = written_signed rpki_algorithm (list_signed x value)

abbrev pub IsShortCrl : ListParts → List ℕ → Type 0
IsShortCrl x value = IsShortSigned rpki_algorithm (list_signed x value)

-- it is read as its normal form
abbrev pub IsCrlReadBack : ListParts → List ℕ → Type 0
IsCrlReadBack x value = crl.spells (crl_parts (list_signed x value) (normal_list x)) (crl_octets x value)
