-- What a status says of who has issued a certificate or a revocation list.
use Rattle.std.specs.Prelude.{◌≡◌, ◌≢◌, ◌⊎◌, ℕ, List, Some, Result, Ok, Err}
use Rattle.sha1.specs.Sha1.{sha1}
use Rattle.rpki_cert.specs.declared.read.cert_part.CertPart.{CertPart}
use Rattle.rpki_cert.specs.declared.extension.known_view.KnownView.{KnownView}
use Rattle.rpki_cert.specs.Cert.{CertParts, SpellsCert}
use Rattle.rpki_cert.specs.View.{IsCertAt, IsCertWrong}
use Rattle.rpki_c.specs.declared.issued.IssuedCert.{IssuedCert}
use Rattle.rpki_c.specs.Certificate.{IsKnownAt, HasKnown, IsUnknown}
use Rattle.rpki_c.specs.Status.{no_issuer, other_issuer, other_authority, other_key, content, other_anchor}
use Rattle.rpki_c.specs.Key.{IsVerifiedBy, HasSigned}
use Rattle.jiff.specs.Types.{DateTime}
use Rattle.rpki_time.specs.Validity.{Period}
use Rattle.rpki_crl.specs.declared.crl_part.CrlPart.{CrlPart}
use Rattle.rpki_crl.specs.Crl.{CrlParts, crl}
use Rattle.rpki_crl.specs.CrlView.{IsCrlWrong}
use Rattle.rpki_c.specs.declared.times.Moment.{Moment}
use Rattle.rpki_c.specs.Crl.{crl_part_number}
use Rattle.rpki_c.specs.Made.{IsPossible, IsTimeOf}
use Rattle.rpki_c.specs.Moments.{IsToldOf}
use Rattle.rpki_cert.specs.KnownView.{AreKnown}

-- ---- What a status says of two certificates, of which the second may have issued the first

-- the authority key identifier is there, and is that of the issuer's key (RFC 6487 4.8.2, 4.8.3)
abbrev pub NamesKeyOf : CertParts → KnownView → Type 0
NamesKeyOf issuer known = known.authority_key_identifier ≡ Some (sha1 issuer.tbs.key.bits.octets)

-- the first names the subject of the second, and its key
pub record NamesIssuer (x issuer : CertParts) (known : KnownView) : Type 0 where
  pub name : x.tbs.issuer ≡ issuer.tbs.subject
  pub authority : NamesKeyOf issuer known

-- both are certificates, and the second may have issued the first
pub record IsIssuedBy (s t : List ℕ) (x issuer : CertParts) (known : KnownView) : Type 0 where
  pub read : HasKnown s x known
  pub spelled : SpellsCert issuer t
  pub named : NamesIssuer x issuer known

-- Both are certificates. 153: the issuer of the first has another name than the second's subject. 154: it has that
-- name, and the first names another key, or none.
abbrev pub IsToldApart : CertParts → CertParts → KnownView → ℕ → Type 0
IsToldApart x issuer known status =
    ((status ≡ other_issuer) × (x.tbs.issuer ≢ issuer.tbs.subject))
    ⊎ ((status ≡ other_authority) × (x.tbs.issuer ≡ issuer.tbs.subject) × (NamesKeyOf issuer known → ⊥))

-- a test of that, whose error is such a status
abbrev pub TestsNames : CertParts → CertParts → KnownView → Result (Unit {0}) ℕ → Type 0
TestsNames x issuer known (Ok u) = NamesIssuer x issuer known
TestsNames x issuer known (Err status) = IsToldApart x issuer known status

-- 64 to 84: the first isn't read. 152: it is, and the second is no certificate. Else both are.
abbrev pub IsNotIssued : List ℕ → List ℕ → ℕ → Type 0
IsNotIssued s t status =
    IsUnknown s status
    ⊎ ((x : CertParts) × (known : KnownView) × HasKnown s x known
    × (((status ≡ no_issuer) × (q : CertPart) × IsCertWrong t q)
    ⊎ ((issuer : CertParts) × SpellsCert issuer t × IsToldApart x issuer known status)))

-- the same, of certificates that are in these octets as in the view
pub record IsIssuedAt (s t : List ℕ) (v : IssuedCert) (x issuer : CertParts) : Type 0 where
  pub subject : IsKnownAt s v.subject x
  pub issued : IsCertAt t v.issuer issuer
  pub by : IsIssuedBy s t x issuer v.subject.known

abbrev pub IsIssuedRead : List ℕ → List ℕ → Result IssuedCert ℕ → Type 0
IsIssuedRead s t (Ok v) = (x : CertParts) × (issuer : CertParts) × IsIssuedAt s t v x issuer
IsIssuedRead s t (Err status) = IsNotIssued s t status

-- Status 0: the second may have issued the first. Else it may not have.
abbrev pub IsIssuerRead : List ℕ → List ℕ → ℕ → Type 0
IsIssuerRead s t status =
    ((status ≡ 0) × (x : CertParts) × (issuer : CertParts) × (known : KnownView) × IsIssuedBy s t x issuer known)
    ⊎ IsNotIssued s t status

-- ---- What a status says of two certificates, of which the second may have issued the first, and its key signed it

-- the subject key identifier is there, and is that of the certificate's own key (RFC 6487 4.8.2)
abbrev pub NamesOwnKey : CertParts → KnownView → Type 0
NamesOwnKey x known = known.subject_key_identifier ≡ Some (sha1 x.tbs.key.bits.octets)

-- 57: the subject key identifier of the first is not that of its own key. Else it is, and the status is that of the
-- signature by the second's key.
abbrev pub IsToldSigned : CertParts → CertParts → KnownView → ℕ → Type 0
IsToldSigned x issuer known status =
    ((status ≡ other_key) × (NamesOwnKey x known → ⊥))
    ⊎ (NamesOwnKey x known × IsVerifiedBy issuer.tbs.key x.signed.signed x.signed.value status)

-- 64 to 84, 152 to 154: the second may not have issued the first. Else it may.
abbrev pub IsSignedByRead : List ℕ → List ℕ → ℕ → Type 0
IsSignedByRead s t status =
    IsNotIssued s t status
    ⊎ ((x : CertParts) × (issuer : CertParts) × (known : KnownView) × IsIssuedBy s t x issuer known
    × IsToldSigned x issuer known status)

-- ---- What a status says of a revocation list and of the certificate of who may have issued it, at a moment

-- from this update to the next
abbrev pub period_of : CrlParts → Period
period_of x = record { not_before = x.list.this_update; not_after = x.list.next_update }

-- where there is such a time as the moment, the status tells whether the list is in force at it; else it is 5
abbrev pub IsListToldOf : CrlParts → Moment → ℕ → Type 0
IsListToldOf x m status =
    ((t : DateTime) × IsTimeOf m t × IsToldOf (period_of x) t status)
    ⊎ ((IsPossible m → ⊥) × (status ≡ content))

-- the list names the issuer's key (RFC 6487 5, RFC 5280 5.2.1)
abbrev pub ListNamesKeyOf : CertParts → CrlParts → Type 0
ListNamesKeyOf issuer x = x.list.extensions.authority ≡ sha1 issuer.tbs.key.bits.octets

-- the list has the subject's name, and names its key, which has signed it
pub record HasIssued (x : CrlParts) (issuer : CertParts) : Type 0 where
  pub name : x.list.issuer ≡ issuer.tbs.subject
  pub authority : ListNamesKeyOf issuer x
  pub signed : HasSigned issuer.tbs.key x.signed.signed x.signed.value

-- A list and a certificate. 153: the issuer of the list has another name than the certificate's subject. 154: it has
-- that name, and the list names another key. 52, 53: both are right, and the status is that of the signature. Else the
-- subject has issued the list, and the status says whether it is in force at the moment.
abbrev pub IsListTold : CrlParts → CertParts → Moment → ℕ → Type 0
IsListTold x issuer m status =
    ((status ≡ other_issuer) × (x.list.issuer ≢ issuer.tbs.subject))
    ⊎ ((status ≡ other_authority) × (x.list.issuer ≡ issuer.tbs.subject) × (ListNamesKeyOf issuer x → ⊥))
    ⊎ ((status ≢ 0) × (x.list.issuer ≡ issuer.tbs.subject) × ListNamesKeyOf issuer x
    × IsVerifiedBy issuer.tbs.key x.signed.signed x.signed.value status)
    ⊎ (HasIssued x issuer × IsListToldOf x m status)

-- 64 to 122: this part of the first is wrong. 152: it is a list, and the second is no certificate. Else both are.
abbrev pub IsListRead : List ℕ → List ℕ → Moment → ℕ → Type 0
IsListRead s t m status =
    ((q : CrlPart) × (status ≡ crl_part_number q) × IsCrlWrong s q)
    ⊎ ((x : CrlParts) × crl.spells x s
    × (((status ≡ no_issuer) × (q : CertPart) × IsCertWrong t q)
    ⊎ ((issuer : CertParts) × SpellsCert issuer t × IsListTold x issuer m status)))

-- ---- What a status says of the certificate of a trust anchor, beside the key of its locator (RFC 8630 3)

-- the octets of the certificate's key, as the grammar divides the octets
abbrev pub key_octets : (x : CertParts) (s : List ℕ) → SpellsCert x s → List ℕ
key_octets x s h = h.tbs.spelled.two.two.two.two.two.two.first

-- 60: these are not the octets of the certificate's key. 57: they are, and its subject key identifier is not that of
-- the key. Else both are right, and the status is that of the certificate's signature by its own key.
abbrev pub IsAnchorTold : (x : CertParts) (s : List ℕ) → SpellsCert x s → KnownView → List ℕ → ℕ → Type 0
IsAnchorTold x s h known key status =
    ((status ≡ other_anchor) × (key ≢ key_octets x s h))
    ⊎ ((status ≡ other_key) × (key ≡ key_octets x s h) × (NamesOwnKey x known → ⊥))
    ⊎ ((key ≡ key_octets x s h) × NamesOwnKey x known × IsVerifiedBy x.tbs.key x.signed.signed x.signed.value status)

-- 64 to 84: it isn't read. Else it is.
abbrev pub IsAnchorRead : List ℕ → List ℕ → ℕ → Type 0
IsAnchorRead s key status =
    IsUnknown s status
    ⊎ ((x : CertParts) × (h : SpellsCert x s) × (known : KnownView) × AreKnown x.tbs.extensions known
    × IsAnchorTold x s h known key status)
