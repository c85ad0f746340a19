-- How long what is valid is so: the period of a path, and that of a payload.
use Rattle.std.specs.Prelude.{◌≡◌, ◌↔◌, ◌≤◌, ℕ, suc, List, map, codes}
use Rattle.std.specs.List.{Contains}
use Rattle.jiff.specs.Types.{DateTime}
use Rattle.rpki_time.specs.Validity.{HoldsAt, Period}
use Rattle.rpki_cert.specs.declared.profile.Profile.TheVariants.{Router}
use Rattle.rpki_cert.specs.Cert.{CertParts}
use Rattle.rpki_contents.specs.declared.route_origin.RouteOrigin.{RouteOrigin}
use Rattle.rpki_contents.specs.Aspa.{AspaParts}
use Rattle.rpki_contents.specs.Roa.{AttestationParts}
use Rattle.rpki_contents.specs.RouteOrigin.{origins}
use Rattle.rpki_locator.specs.declared.anchor_uri.AnchorUri.{AnchorUri}
use Rattle.rpki_crl.specs.Crl.{CrlParts}
use Rattle.rpki_objects.specs.TypedObject.{TypedParts}
use Rattle.rpki_valid.specs.declared.staleness.Staleness.TheVariants.{Refused}
use Rattle.rpki_valid.specs.Revocation.{IsCurrentAt}
use Rattle.rpki_valid.specs.Verified.{Holder}
use Rattle.rpki_validation.specs.declared.payload.Payload.{Payload}
use Rattle.rpki_validation.specs.Basis.{Basis}
use Rattle.rpki_validation.specs.Counts.{CountsAt}
use Rattle.rpki_validation.specs.Issued.{AreOriginsIn, AreProvidersIn, IsCertIn}
use Rattle.rpki_validation.specs.Point.{IsFile, IsPoint}
use Rattle.rpki_validation.specs.Publication.{PublicationParts}
use Rattle.rpki_validation.specs.Reached.{IsBelow, IsFirstAnchor}
use Rattle.rpki_validation.specs.Snapshot.{Published}

-- payloads without their periods
abbrev pub value_of : {T : Type 0} → Payload T → T
value_of v = v.value

abbrev pub values : {T : Type 0} → List (Payload T) → List T
values vs = map value_of vs

abbrev pub in_period : {T : Type 0} → Period → T → Payload T
in_period period value = record { value = value; period = period }

-- ---- periods

-- the moments of the period are those at which the certificate is valid, and Above holds
abbrev pub IsPeriodUnder : (DateTime → Type 0) → CertParts → Period → Type 0
IsPeriodUnder Above cert p = (m : DateTime) → HoldsAt p m ↔ (Above m × HoldsAt cert.tbs.validity m)

-- at the moment the path of an authority holds, whose period is this, and its list counts
abbrev pub HoldsAbove : Period → CrlParts → DateTime → Type 0
HoldsAbove above list m = HoldsAt above m × IsCurrentAt Refused m list

-- An authority that so many steps lead down to from the top, and the period of its path: that of the certificate at the
-- top; below it that in which the issuer's path holds, its list counts, and the certificate is valid.
pub data ReachedFor (published : Published) (basis : Basis) (IsTop : Holder → Type 0) : ℕ → Holder → Period → Type 0
  where
    Top : (x : Holder) (p : Period) → IsTop x → ((m : DateTime) → HoldsAt p m ↔ HoldsAt x.cert.tbs.validity m)
        → ReachedFor published basis IsTop 0 x p
    Below : (n : ℕ) (issuer x : Holder) (above p : Period) → ReachedFor published basis IsTop n issuer above
        → (below : IsBelow published basis issuer x)
        → IsPeriodUnder (HoldsAbove above below.point.list) x.cert p
        → ReachedFor published basis IsTop (suc n) x p

-- ---- what files say, by the certificate that says it

-- an attestation that this certificate has signed says that the prefix may be announced
abbrev pub SaysOriginBy : Basis → Holder → CrlParts → List ℕ → RouteOrigin → CertParts → Type 0
SaysOriginBy basis issuer list octets v cert =
    (x : TypedParts AttestationParts) × AreOriginsIn basis issuer list octets x × Contains (origins x.content) v
    × (x.object.cert ≡ cert)

abbrev pub SaysProvidersBy : Basis → Holder → CrlParts → List ℕ → TypedParts AspaParts → CertParts → Type 0
SaysProvidersBy basis issuer list octets x cert =
    AreProvidersIn basis issuer list octets x × (x.object.cert ≡ cert)

-- the certificate of a router itself
abbrev pub SaysRouterBy : Basis → Holder → CrlParts → List ℕ → Holder → CertParts → Type 0
SaysRouterBy basis issuer list octets x cert = IsCertIn Router basis issuer list octets x × (x.cert ≡ cert)

-- A file of a point of the authority, whose name ends so, says the payload, which is valid in its period: that in which
-- the path of the authority holds, its list counts, and the certificate is valid by which it is said.
pub record IsSaidFor {T : Type 0} (published : Published) (basis : Basis) (end : List ℕ)
    (Says : Basis → Holder → CrlParts → List ℕ → T → CertParts → Type 0) (issuer : Holder) (above : Period)
    (v : Payload T) : Type 0 where
  pub point : PublicationParts
  pub published_there : IsPoint published basis issuer point
  pub octets : List ℕ
  pub file : IsFile published basis point end octets
  pub cert : CertParts
  pub says : Says basis issuer point.list octets v.value cert
  pub period : IsPeriodUnder (HoldsAbove above point.list) cert v.period

-- ---- under a locator

-- the payload is said by an authority that counts
pub record IsHeldFor {T : Type 0} (published : Published) (basis : Basis) (uris : List AnchorUri) (end : List ℕ)
    (Says : Basis → Holder → CrlParts → List ℕ → T → CertParts → Type 0) (v : Payload T) : Type 0 where
  pub steps : ℕ
  pub few : steps ≤ basis.terms.deepest
  pub issuer : Holder
  pub above : Period
  pub counted : CountsAt published basis uris steps issuer
  pub reached : ReachedFor published basis (IsFirstAnchor published basis uris) steps issuer above
  pub said : IsSaidFor published basis end Says issuer above v

abbrev pub IsOriginFor : Published → Basis → List AnchorUri → Payload RouteOrigin → Type 0
IsOriginFor published basis uris = IsHeldFor published basis uris (codes ".roa") SaysOriginBy

abbrev pub AreProvidersFor : Published → Basis → List AnchorUri → Payload (TypedParts AspaParts) → Type 0
AreProvidersFor published basis uris = IsHeldFor published basis uris (codes ".asa") SaysProvidersBy

abbrev pub IsRouterFor : Published → Basis → List AnchorUri → Payload Holder → Type 0
IsRouterFor published basis uris = IsHeldFor published basis uris (codes ".cer") SaysRouterBy
