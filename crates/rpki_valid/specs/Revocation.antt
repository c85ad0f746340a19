-- Revocation lists, and whether a certificate is revoked (RFC 5280 6.3.3, RFC 6487 5, 7.2).
use Rattle.std.specs.Prelude.{◌≡◌, ◌≤ℤ◌, false, Option, None, Some}
use Rattle.jiff.specs.Types.{DateTime}
use Rattle.jiff.specs.Words.{civil_nanos}
use Rattle.rpki.specs.Provider.{Checkers}
use Rattle.rpki_cert.specs.Cert.{TbsParts, CertParts}
use Rattle.rpki_crl.specs.Crl.{CrlParts, listed, is_revoked}
use Rattle.rpki_valid.specs.declared.staleness.Staleness.{Staleness}
use Rattle.rpki_valid.specs.declared.staleness.Staleness.TheVariants.{Refused, Accepted}
use Rattle.rpki_valid.specs.Valid.{IsSignedBy}

-- the list was issued by the moment
abbrev pub IsOutAt : DateTime → CrlParts → Type 0
IsOutAt at x = civil_nanos x.list.this_update ≤ℤ civil_nanos at

-- the next list was not due before the moment; or it doesn't matter
abbrev pub IsFreshAt : Staleness → DateTime → CrlParts → Type 0
IsFreshAt Refused at x = civil_nanos at ≤ℤ civil_nanos x.list.next_update
IsFreshAt Accepted at x = Unit {0}

-- the list counts at the moment
abbrev pub IsCurrentAt : Staleness → DateTime → CrlParts → Type 0
IsCurrentAt staleness at x = IsOutAt at x × IsFreshAt staleness at x

-- The authority of this name and key has signed the list, which has its name and the identifier of its key (RFC 5280
-- 6.3.3, RFC 6487 5), and the list counts at the moment.
pub record IsListOf (by : Checkers) (staleness : Staleness) (issuer : TbsParts)
    (at : DateTime) (x : CrlParts) : Type 0 where
  pub signature : IsSignedBy by issuer.key x.signed
  pub name : x.list.issuer ≡ issuer.subject
  pub authority : x.list.extensions.authority ≡ by.sha1 issuer.key.bits.octets
  pub out : IsOutAt at x
  pub fresh : IsFreshAt staleness at x

-- the list, where there is one, has no entry of the certificate (RFC 6488 3, RFC 5280 6.3.3)
abbrev pub IsUnrevoked : Option CrlParts → CertParts → Type 0
IsUnrevoked None x = Unit {0}
IsUnrevoked (Some list) x = is_revoked x.tbs.serial (listed list.list.revoked) ≡ false

-- A list of the authority, which counts at the moment, has no entry of the certificate (RFC 6487 7.2). Where no list is
-- asked for, this says nothing.
abbrev pub IsUnrevokedBy : Checkers → Option Staleness → TbsParts → DateTime → CertParts → Type 0
IsUnrevokedBy by None issuer at x = Unit {0}
IsUnrevokedBy by (Some staleness) issuer at x =
    (list : CrlParts) × IsListOf by staleness issuer at list × IsUnrevoked (Some list) x

-- what is asked of lists both here and there: nothing, where either asks for none; else that which accepts more
abbrev pub least_asked : Option Staleness → Option Staleness → Option Staleness
least_asked None y = None
least_asked (Some Refused) y = y
least_asked (Some Accepted) None = None
least_asked (Some Accepted) (Some y) = Some Accepted
