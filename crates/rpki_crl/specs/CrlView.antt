-- Revocation lists that are read in place: what is where, and which part is wrong, and why (RFC 5280 5.1).
use Rattle.std.specs.Prelude.{◌≡◌, ◌⊎◌, ◌++◌, ◌||◌, ℕ, Bool, true, List, [], Option, None, Some, Result, Ok, Err}
use Rattle.std.specs.Prelude.{codes, nat_eq}
use Rattle.rpki_der.specs.declared.error.DecodeError.{DecodeError}
use Rattle.rpki_der.specs.Prelude.{sequence, Accepts, Refuses, Spells, SpellsNothing, SpellsContents, SpellsEach}
use Rattle.rpki_der.specs.Prelude.{HasTag, IsValue, SpellsValue, IsCaptureFault, TakesNoMemory, Format, this_number}
use Rattle.rpki_der.specs.Prelude.{only, in_place}
use Rattle.rpki_der.specs.Parts.{OptionalThen}
use Rattle.rpki_der.specs.FirstFault.{RepeatedFault}
use Rattle.rpki_parse.specs.declared.malformed.Malformed.{Malformed}
use Rattle.rpki_time.specs.TimeValue.{time}
use Rattle.rpki.specs.Prelude.{ExtensionParts, SignedParts, SpellsExtension, IsSignedContents, name, IsContentWith}
use Rattle.rpki.specs.ExtensionFault.{extension}
use Rattle.rpki_der.specs.declared.section.Section.{Section}
use Rattle.rpki_x509.specs.declared.signed_parts.Parts.{Parts}
use Rattle.rpki_x509.specs.Frame.{IsFrameFault}
use Rattle.rpki_x509.specs.Signed.{SpellsRpkiAlgorithm}
use Rattle.rpki_x509.specs.declared.signed_parts.SignedError.{SignedError}
use Rattle.rpki_x509.specs.declared.signed_parts.SignedPart.{SignedPart}
use Rattle.rpki_x509.specs.declared.signed_parts.SignedPart.TheVariants.{Algorithm, Signature}
use Rattle.rpki_der.specs.Section.{IsSection}
use Rattle.rpki_x509.specs.SignedParts.{ArePartsIn, AreMalformed}
use Rattle.rpki_crl.specs.declared.crl_part.CrlPart.{CrlPart}
use Rattle.rpki_crl.specs.declared.crl_part.CrlPart.TheVariants as P
use Rattle.rpki_crl.specs.declared.crl_view.CrlView.{CrlView}
use Rattle.rpki_crl.specs.declared.list_view.TbsCertListView.{TbsCertListView}
use Rattle.rpki_crl.specs.Crl.{Entry, entry, each_entry, entries, ListExtensions, AreExtensions, AreOthers}
use Rattle.rpki_crl.specs.Crl.{extensions_of, extensions, ListParts, fields_of, signature, fields}
use Rattle.rpki_crl.specs.Crl.{tbs_cert_list, CrlParts, crl}
use Rattle.rpki_crl.specs.Crl.{is_revoked}

-- ---- a part, or that it is wrong

-- the malformed part of a list, and why
abbrev pub CrlError : Type 0
CrlError = Malformed CrlPart

abbrev pub crl_error : CrlPart → DecodeError → CrlError
crl_error part error = record { part = part; error = error }

-- q is wrong in s, which a value of F should begin: it doesn't, and q is this part, with the error of F; or it does,
-- and L says it of what follows
pub data FirstWrong {V : Type 0} (F : Format V) (part : CrlPart) (L : List ℕ → CrlError → Type 0) (s : List ℕ)
    (q : CrlError) : Type 0 where
  AtPart : Refuses F.spells s → F.fault s q.error → q.part ≡ part → FirstWrong F part L s q
  Later : (v : V) (r : List ℕ) → Spells F.spells s v r → L r q → FirstWrong F part L s q

-- ---- the entries

-- one more of them, whatever it says
abbrev pub Keeps : Unit {0} → Entry → Unit {0} → Type 0
Keeps from x to = to ≡ from

-- whether one of this serial number was found, after one more
abbrev pub Looks : ℕ → Bool → Entry → Bool → Type 0
Looks n from x to = to ≡ (from || nat_eq x.0 n)

-- the error of what is to be entries, and isn't kept: that of the first that isn't one
abbrev pub AreEntriesFault : List ℕ → DecodeError → Type 0
AreEntriesFault = TakesNoMemory (RepeatedFault entry.spells entry.fault)

-- All of s is entries, and one of them is of the certificate of this serial number, or none is; or the error is that of
-- the first that is no entry.
abbrev pub FindsSerial : ℕ → List ℕ → Result Bool DecodeError → Type 0
FindsSerial n s (Ok found) = (xs : List Entry) × each_entry.spells xs s × (found ≡ is_revoked n xs)
FindsSerial n s (Err e) = SpellsNothing each_entry.spells s × AreEntriesFault s e

-- All of s is entries; or the error is that of the first that is no entry.
abbrev pub ReadsEntries : List ℕ → Result (Unit {0}) DecodeError → Type 0
ReadsEntries s (Ok u) = (xs : List Entry) × each_entry.spells xs s
ReadsEntries s (Err e) = SpellsNothing each_entry.spells s × AreEntriesFault s e

-- A reader of the list of entries found s and left r: Ok is the contents of the list, where a SEQUENCE is there, and
-- else no octets, in front of all; and the error says that the SEQUENCE is no such list.
abbrev pub TakesRevoked : List ℕ → List ℕ → Result Section DecodeError → Type 0
TakesRevoked s r (Ok p) =
    (HasTag sequence s × (xs : List Entry) × (a : Spells entries.spells s xs r) × IsSection p a.spelled.contents r)
    ⊎ ((HasTag sequence s → ⊥) × (r ≡ s) × IsSection p [] s)
TakesRevoked s r (Err e) = HasTag sequence s × Refuses entries.spells s × (in_place entries).fault s e

-- ---- the extensions

-- these octets are two extensions, which say this of a list
pub record AreTwo (v : ListExtensions) (c : List ℕ) : Type 0 where
  pub extensions : List ExtensionParts
  pub each : SpellsEach SpellsExtension extensions c
  pub say : AreExtensions v extensions

-- one extension more, whatever it says
abbrev pub Passes : Unit {0} → ExtensionParts → Unit {0} → Type 0
Passes from x to = to ≡ from

-- they aren't: the error of the first that is no extension; or all are extensions, and not those of a list
abbrev pub AreTwoFault : List ℕ → DecodeError → Type 0
AreTwoFault s e =
    RepeatedFault SpellsExtension extension.fault s e
    ⊎ ((xs : List ExtensionParts) × SpellsEach SpellsExtension xs s × AreOthers xs [] e)

-- no extensions of a list are all of s: the error where they are kept, but allocation failure
abbrev pub AreExtensionsFault : List ℕ → DecodeError → Type 0
AreExtensionsFault = (in_place (only extensions)).fault

-- ---- TBSCertList

-- Of a list of entries, which may be left out, and of extensions, that are all of s: the contents of the list, and what
-- follows it; no octets in front of all where it is left out.
abbrev pub entries_in_front : (xs : Option (List Entry)) (v : ListExtensions) (s : List ℕ)
    → OptionalThen entries.spells (only extensions).spells (xs, v) s → List ℕ
entries_in_front None v s h = []
entries_in_front (Some xs) v s h = h.one.contents

abbrev pub after_entries : (xs : Option (List Entry)) (v : ListExtensions) (s : List ℕ)
    → OptionalThen entries.spells (only extensions).spells (xs, v) s → List ℕ
after_entries None v s h = s
after_entries (Some xs) v s h = h.second

-- the same of the fields of a TBSCertList
abbrev pub revoked_in : (t : ListParts) (c : List ℕ) → fields.spells (fields_of t) c → List ℕ
revoked_in t c h = entries_in_front t.revoked t.extensions h.two.two.two.two.second h.two.two.two.two.two

abbrev pub after_revoked : (t : ListParts) (c : List ℕ) → fields.spells (fields_of t) c → List ℕ
after_revoked t c h = after_entries t.revoked t.extensions h.two.two.two.two.second h.two.two.two.two.two

-- The sections are those of the fields; h says which octets spell which part, and so what follows each.
pub record IsListAt (t : ListParts) (s : List ℕ) (h : fields.spells (fields_of t) s) (v : TbsCertListView)
    : Type 0 where
  pub algorithm : v.signature ≡ t.algorithm
  pub issuer : IsSection v.issuer t.issuer h.two.two.second
  pub this_update : v.this_update ≡ t.this_update
  pub next_update : v.next_update ≡ t.next_update
  pub revoked : IsSection v.revoked_certs (revoked_in t s h) (after_revoked t s h)
  pub extensions : extensions_of v.extensions ≡ t.extensions

-- all of s is to be the extensions
abbrev pub AreExtensionsWrong : List ℕ → CrlError → Type 0
AreExtensionsWrong s q = SpellsNothing extensions.spells s × AreExtensionsFault s q.error × (q.part ≡ P.Extensions)

-- all of s is to be a list of entries, which may be left out, and extensions
abbrev pub AreListedWrong : List ℕ → CrlError → Type 0
AreListedWrong s q =
    ((HasTag sequence s → ⊥) × AreExtensionsWrong s q)
    ⊎ (HasTag sequence s × FirstWrong (in_place entries) P.RevokedCerts AreExtensionsWrong s q)

-- The parts of `fields`, each with the error that it has where it is kept, but allocation failure.
abbrev pub AreFieldsWrong : List ℕ → CrlError → Type 0
AreFieldsWrong =
    FirstWrong (this_number 1) P.Version
    (FirstWrong signature P.TbsAlgorithm
    (FirstWrong (in_place name) P.Issuer
    (FirstWrong time P.ThisUpdate
    (FirstWrong time P.NextUpdate AreListedWrong))))

-- all of d is to be a TBSCertList
pub data IsTbsWrong (d : List ℕ) (q : CrlError) : Type 0 where
  NoTbs : SpellsNothing (SpellsContents sequence true) d → IsFrameFault sequence d q.error → q.part ≡ P.Tbs
      → IsTbsWrong d q
  InTbs : (c : List ℕ) → SpellsContents sequence true c d → AreFieldsWrong c q → IsTbsWrong d q

-- ---- a revocation list

-- the parts of signed data
abbrev pub signed_in : CrlView → Parts
signed_in v =
    record {
      signed = v.signed;
      signature_algorithm = v.signature_algorithm;
      algorithm = v.algorithm;
      signature = v.signature;
    }

-- the list x is all of s, and the sections are those of its parts, as the grammar divides s
pub record IsCrlAt (s : List ℕ) (v : CrlView) (x : CrlParts) : Type 0 where
  pub spelled : crl.spells x s
  pub parts : ArePartsIn spelled.value spelled.spelled.signed.contents spelled.spelled.signed.spelled (signed_in v)
  pub tbs : IsListAt x.list spelled.stands.list.contents spelled.stands.list.spelled v.tbs

-- the part of a list that a part of signed data is
abbrev pub signed_part : SignedPart → CrlPart
signed_part Algorithm = P.Algorithm
signed_part Signature = P.Signature

-- the error of a list whose signed data has this one
abbrev pub of_signed : SignedError → CrlError
of_signed p = crl_error (signed_part p.part) p.error

-- all of s is to be a revocation list: the SEQUENCE around all; then the parts of signed data; then what is signed;
-- then that the algorithms are the same
pub data IsCrlError (s : List ℕ) (q : CrlError) : Type 0 where
  NoList : SpellsNothing (SpellsContents sequence true) s → IsFrameFault sequence s q.error → q.part ≡ P.List
      → IsCrlError s q
  NoSigned : (c : List ℕ) → SpellsContents sequence true c s → Refuses SpellsValue c → IsCaptureFault c q.error
      → q.part ≡ P.Signed → IsCrlError s q
  BehindSigned : (c v r : List ℕ) (p : SignedError) → SpellsContents sequence true c s → Accepts SpellsValue c v r
      → AreMalformed r p → q ≡ of_signed p → IsCrlError s q
  InSigned : (c : List ℕ) (x : SignedParts Bool) → SpellsContents sequence true c s
      → (h : IsSignedContents SpellsRpkiAlgorithm x c) → h.signature.unused ≡ 0 → IsTbsWrong x.signed q
      → IsCrlError s q
  Differ : (c : List ℕ) (x : SignedParts Bool) (t : ListParts) → SpellsContents sequence true c s
      → (h : IsSignedContents SpellsRpkiAlgorithm x c) → h.signature.unused ≡ 0
      → tbs_cert_list.spells (fields_of t) x.signed → (t.algorithm ≡ x.algorithm → ⊥) → q.part ≡ P.SameAlgorithm
      → IsContentWith (codes "signature algorithms differ") q.error → IsCrlError s q

-- this part is wrong, whatever the error
abbrev pub IsCrlWrong : List ℕ → CrlPart → Type 0
IsCrlWrong s part = (e : DecodeError) × IsCrlError s (crl_error part e)

-- ---- a list, of whose signed part the header alone was read

-- a SEQUENCE of d, and of m after it, is a list of these parts
abbrev pub IsCrlBehind : List ℕ → List ℕ → CrlView → Type 0
IsCrlBehind d m v = (s : List ℕ) → SpellsContents sequence true (d ++ m) s → (x : CrlParts) × IsCrlAt s v x

-- where d is a value, this is wrong in it
abbrev pub IsWrongBehind : List ℕ → List ℕ → CrlError → Type 0
IsWrongBehind d m q = (s : List ℕ) → SpellsContents sequence true (d ++ m) s → IsValue d → IsCrlError s q
