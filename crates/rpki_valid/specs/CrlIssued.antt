-- Whether an authority has issued a revocation list that counts (RFC 5280 6.3.3, RFC 6487 5, 7.2).
use Rattle.std.specs.Prelude.{◌≡◌, Some, Result}
use Rattle.jiff.specs.Types.{DateTime}
use Rattle.rpki.specs.declared.repository.error.ValidationError.{ValidationError}
use Rattle.rpki_time.specs.Validity.{HoldsAt}
use Rattle.rpki.specs.Checkers.{Models, checkers_of}
use Rattle.rpki_cert.specs.declared.profile.Profile.{Profile}
use Rattle.rpki_cert.specs.Cert.{CertParts}
use Rattle.rpki_cert.specs.RuleError.{ChecksBy}
use Rattle.rpki_crl.specs.Crl.{CrlParts}
use Rattle.rpki_valid.specs.declared.staleness.Staleness.{Staleness}
use Rattle.rpki_valid.specs.Valid.{HasReason, IsPeriodError, IsSignedBy, Unless}
use Rattle.rpki_valid.specs.declared.resource.set.ResourceSet.{ResourceSet}
use Rattle.rpki_valid.specs.Revocation.{IsOutAt, IsCurrentAt, IsListOf}
use Rattle.rpki_valid.specs.Verified.{Authority, Verified, HasPath, holder}
use Rattle.rpki_valid.specs.ErrorTexts.{unsigned_list_text, list_issuer_text, list_authority_text, later_list_text}
use Rattle.rpki_valid.specs.ErrorTexts.{stale_list_text}

-- the verified authority has signed the list, under its name and by the key that the list names, and the list counts at
-- the moment, at which all certificates of its path hold
pub record IsIssuedBy (staleness : Staleness) (issuer : Verified) (at : DateTime) (x : CrlParts) : Type 0 where
  pub period : HoldsAt issuer.period at
  pub list : IsListOf issuer.by staleness issuer.cert.tbs at x

-- the error where one of them doesn't hold: of the first, in this order
abbrev pub IsNotIssued : Verified → DateTime → CrlParts → ValidationError → Type 0
IsNotIssued issuer at x =
    Unless (HoldsAt issuer.period at) (IsPeriodError issuer.period at)
    (Unless (IsSignedBy issuer.by issuer.cert.tbs.key x.signed) (HasReason unsigned_list_text)
    (Unless (x.list.issuer ≡ issuer.cert.tbs.subject) (HasReason list_issuer_text)
    (Unless (x.list.extensions.authority ≡ issuer.by.sha1 issuer.cert.tbs.key.bits.octets)
    (HasReason list_authority_text)
    (Unless (IsOutAt at x) (HasReason later_list_text)
    (HasReason stale_list_text)))))

-- it isn't such a list, and this is the error
abbrev pub IsRefusedList : Staleness → Verified → DateTime → CrlParts → ValidationError → Type 0
IsRefusedList staleness issuer at x e = (IsIssuedBy staleness issuer at x → ⊥) × IsNotIssued issuer at x e

-- a check that the authority has issued the list
abbrev pub ChecksList : Staleness → Verified → DateTime → CrlParts → Result (Unit {0}) ValidationError → Type 0
ChecksList staleness issuer at x = ChecksBy (IsIssuedBy staleness issuer at x) (IsNotIssued issuer at x)

-- an authority with its list that counts at the moment, and whether a stale one does
pub record InForce (X : Type 0) : Type 0 where
  pub issuer : Authority X
  pub list : CrlParts
  pub staleness : Staleness
  pub at : DateTime

abbrev pub in_force : {X : Type 0} → Authority X → CrlParts → Staleness → DateTime → InForce X
in_force issuer list staleness at = record { issuer = issuer; list = list; staleness = staleness; at = at }

-- all certificates of the authority's path hold at the moment, and the list counts
abbrev pub CountsAt : {X : Type 0} → InForce X → DateTime → Type 0
CountsAt c m = HoldsAt c.issuer.period m × IsCurrentAt c.staleness m c.list

-- a path of authorities leads from a certificate of this profile, which the authority has issued and its list doesn't
-- have, and which has these resources, to a trust anchor
abbrev pub HasListedPath : {X : Type 0} → Models X → Profile → InForce X → CertParts → ResourceSet → Type 0
HasListedPath models profile c x held =
    HasPath profile c.issuer.terms c.issuer.asked (Some c.staleness) (checkers_of models c.issuer.provider) c.at
    (holder x held)
