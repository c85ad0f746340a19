-- What a status says of the octets of a revocation list.
use Rattle.std.specs.Prelude.{◌≡◌, ◌⊎◌, ◌≤◌, ◌<◌, ℕ, Bool, List, slice_index}
use Rattle.rpki_der.specs.Error.{error_number}
use Rattle.rpki_der.specs.Prelude.{number_of}
use Rattle.rpki_crl.specs.declared.crl_part.CrlPart.{CrlPart}
use Rattle.rpki_crl.specs.declared.crl_part.CrlPart.TheVariants as P
use Rattle.rpki_crl.specs.Crl.{CrlParts as CrlValue, Entry, entry, each_entry, crl, listed, is_revoked}
use Rattle.rpki_crl.specs.CrlView.{AreEntriesFault, CrlError, IsCrlError, IsCrlWrong}
use Rattle.rpki_c.specs.declared.crl.CrlParts.{CrlParts}
use Rattle.rpki_c.specs.declared.crl.RevokedCertificate.{RevokedCertificate}
use Rattle.rpki_c.specs.declared.span.Span.{Span}
use Rattle.rpki_c.specs.Span.{IsTakenOff}
use Rattle.rpki_c.specs.Status.{content}
use Rattle.rpki_c.specs.Time.{IsMoment}
use Rattle.rpki_c.specs.Whole.{IsRefused, IsRead}

-- the status of octets of which this part is wrong
abbrev pub crl_part_number : CrlPart → ℕ
crl_part_number P.List = 64
crl_part_number P.Signed = 65
crl_part_number P.Algorithm = 66
crl_part_number P.Signature = 67
crl_part_number P.Tbs = 68
crl_part_number P.Version = 69
crl_part_number P.TbsAlgorithm = 71
crl_part_number P.Issuer = 72
crl_part_number P.Extensions = 76
crl_part_number P.SameAlgorithm = 79
crl_part_number P.ThisUpdate = 120
crl_part_number P.NextUpdate = 121
crl_part_number P.RevokedCerts = 122

-- the octets are a revocation list, whose parts these are; `spelled` says which octets are which
pub record HasCrl (s : List ℕ) (p : CrlParts) : Type 0 where
  pub list : CrlValue
  pub spelled : crl.spells list s
  pub signed : p.«data».octets.now ≡ list.signed.signed
  pub algorithm : p.algorithm.octets.now ≡ spelled.spelled.signed.spelled.text
  pub parameters : p.has_parameters ≡ list.signed.algorithm
  pub signature : p.signature.octets.now ≡ list.signed.value
  pub issuer : p.issuer.octets.now ≡ list.list.issuer
  pub revoked : each_entry.spells (listed list.list.revoked) p.revoked_certs.octets.now
  pub this_update : IsMoment list.list.this_update p.this_update
  pub next_update : IsMoment list.list.next_update p.next_update
  pub number : number_of p.crl_number ≡ list.list.extensions.number
  pub authority : p.authority_key_identifier ≡ list.list.extensions.authority

-- Status 0: the octets are a revocation list of these parts. Else the number of the malformed part, and nothing is
-- written.
abbrev pub IsCrlRead : List ℕ → ℕ → CrlParts → CrlParts → Type 0
IsCrlRead s = IsRead (HasCrl s) crl_part_number (IsCrlWrong s)

-- Status 0: the octets are a revocation list, and nothing is written. Else the number of the malformed part, and the
-- number of the error, as a reader of that part returns it, is written.
abbrev pub IsCrlErrorRead : List ℕ → ℕ → ℕ → ℕ → Type 0
IsCrlErrorRead s status old new =
    ((status ≡ 0) × ((x : CrlValue) × crl.spells x s) × (new ≡ old))
    ⊎ ((q : CrlError) × IsCrlError s q × (status ≡ crl_part_number q.part) × (new ≡ error_number q.error))

-- Status 0: the octets are entries, and it was written whether one of them is of the certificate of this serial number.
-- Else nothing is written: the first bit of the number is set; or an octet is wrong, and the status is the number of
-- the error.
abbrev pub IsCrlSearched : List ℕ → List ℕ → ℕ → Bool → Bool → Type 0
IsCrlSearched twenty s status old new =
    ((slice_index twenty 0 < 128) × (status ≡ 0) × (xs : List Entry) × each_entry.spells xs s
    × (new ≡ is_revoked (number_of twenty) xs))
    ⊎ ((slice_index twenty 0 < 128) × IsRefused each_entry.spells AreEntriesFault s status
    × (new ≡ old))
    ⊎ ((128 ≤ slice_index twenty 0) × (status ≡ content) × (new ≡ old))

-- what is written of an entry
pub record HasEntry (x : Entry) (p : RevokedCertificate) : Type 0 where
  pub serial : number_of p.serial_number ≡ x.0
  pub date : IsMoment x.1 p.revocation_date

-- an entry is taken off the span
abbrev pub IsEntryTaken : ℕ → Span → Span → RevokedCertificate → RevokedCertificate → Type 0
IsEntryTaken = IsTakenOff entry HasEntry
