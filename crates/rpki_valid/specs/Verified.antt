-- Certificates that are verified: each has its profile, a path of authorities leads from it to a trust anchor, and its
-- resources are those of its issuer, or a part of them (RFC 5280 6.1, RFC 6487 7.2, RFC 8360 4.2).
use Rattle.std.specs.Prelude.{◌≡◌, ◌+◌, ◌<◌, ◌≤◌, ℕ, Bool, Option, Result, MatchResult}
use Rattle.jiff.specs.Types.{DateTime}
use Rattle.rpki_time.specs.Validity.{Period, HoldsAt}
use Rattle.rpki.specs.Checkers.{Models, checkers_of}
use Rattle.rpki.specs.Provider.{Checkers}
use Rattle.rpki.specs.PublicKey.{KeyParts}
use Rattle.rpki.specs.declared.repository.error.ValidationError.{ValidationError}
use Rattle.rpki_cert.specs.declared.profile.Profile.{Profile}
use Rattle.rpki_cert.specs.declared.profile.Profile.TheVariants.{Ta, Ca}
use Rattle.rpki_valid.specs.declared.resource.set.ResourceSet.{ResourceSet}
use Rattle.rpki_cert.specs.Cert.{CertParts}
use Rattle.rpki_cert.specs.Known.{UnlessNoMemory}
use Rattle.rpki_cert.specs.Profile.{rules_of, HasProfile}
use Rattle.rpki_cert.specs.RuleError.{IsFirstError}
use Rattle.rpki_valid.specs.Valid.{HasReason, IsIssued, IsAnchor, IsPeriodError, Unless, IsUnissued, IsNoAnchor}
use Rattle.rpki_objects.specs.declared.strictness.Strictness.{Strictness}
use Rattle.rpki_crl.specs.Crl.{CrlParts}
use Rattle.rpki_valid.specs.declared.staleness.Staleness.{Staleness}
use Rattle.rpki_valid.specs.declared.terms.Terms.{Terms as GivenTerms}
use Rattle.rpki_valid.specs.Revocation.{IsUnrevoked, IsUnrevokedBy}
use Rattle.rpki_valid.specs.ResourceSet.{HasResources, HasOwnResources, IsOut, HasNoResources, AreWithin}
use Rattle.rpki_valid.specs.ErrorTexts.{revoked_text, other_key_text, too_long_text}

-- a certificate, and the resources that it has
pub record Holder : Type 0 where
  pub cert : CertParts
  pub resources : ResourceSet

abbrev pub holder : CertParts → ResourceSet → Holder
holder cert resources = record { cert = cert; resources = resources }

-- A certificate of this profile that the issuer has issued, valid at the moment, which a list of the issuer doesn't
-- have that counts at the moment, as far as lists are asked for, with resources under the issuer's.
pub record IsLink (profile : Profile) (strict : Bool) (asked : Option Staleness) (by : Checkers) (at : DateTime)
    (issuer x : Holder) : Type 0 where
  pub profiled : HasProfile profile strict x.cert.tbs
  pub issued : IsIssued by issuer.cert.tbs at x.cert
  pub unrevoked : IsUnrevokedBy by asked issuer.cert.tbs at x.cert
  pub resources : HasResources x.cert.tbs.extensions issuer.resources x.resources

-- what all certificates of a path are checked against: the key of its trust anchor, which a locator names (RFC 8630 2);
-- which rules are asked strictly, that of names among them; and how many authorities there are at most below the trust
-- anchor
pub record Terms : Type 0 where
  pub key : KeyParts
  pub strictness : Strictness
  pub deepest : ℕ

abbrev pub terms_of : KeyParts → Strictness → ℕ → Terms
terms_of key strictness deepest = record { key = key; strictness = strictness; deepest = deepest }

abbrev pub terms_in : GivenTerms → Terms
terms_in x = terms_of x.key.now x.strictness x.deepest

-- a trust anchor of its profile, which its own key has signed, the key of the locator (RFC 8630 3), valid at the
-- moment, with resources of its own
pub record IsRoot (terms : Terms) (by : Checkers) (at : DateTime) (x : Holder) : Type 0 where
  pub profiled : HasProfile Ta terms.strictness.names x.cert.tbs
  pub anchor : IsAnchor by at x.cert
  pub key : x.cert.tbs.key ≡ terms.key
  pub resources : HasOwnResources x.cert.tbs.extensions x.resources

-- An authority that a path of authorities leads up from: a trust anchor; or one that such an authority has issued. Each
-- certificate of the path has its profile, is signed by the one above, is not on the list of that one, has resources
-- under that one's, and is valid at the moment. Of lists so much is asked on each step; nobody revokes a trust anchor.
-- The number is that of the steps, which has a bound, since an authority may certify itself without end.
pub data IsAuthorityAt (terms : Terms) (asked : Option Staleness) (by : Checkers) (at : DateTime) : ℕ → Holder
    → Type 0 where
  Root : (x : Holder) → IsRoot terms by at x → IsAuthorityAt terms asked by at 0 x
  Issued : (n m : ℕ) (issuer x : Holder) → IsAuthorityAt terms asked by at n issuer → m ≡ n + 1 → m ≤ terms.deepest
      → IsLink Ca terms.strictness.names asked by at issuer x → IsAuthorityAt terms asked by at m x

-- an authority that was verified: its certificate, its resources, the period in which all certificates of its path are
-- valid, what they are checked against, the steps up to the trust anchor, what was asked of lists, and what their
-- signatures were checked with
pub record Verified : Type 1 where
  pub cert : CertParts
  pub resources : ResourceSet
  pub period : Period
  pub terms : Terms
  pub depth : ℕ
  pub asked : Option Staleness
  pub by : Checkers

-- the same with the provider, whose checks are these
pub record Authority (X : Type 0) : Type 0 where
  pub cert : CertParts
  pub resources : ResourceSet
  pub period : Period
  pub terms : Terms
  pub depth : ℕ
  pub asked : Option Staleness
  pub provider : X

abbrev pub authority_of : {X : Type 0} → CertParts → ResourceSet → Period → Terms → ℕ → Option Staleness → X
    → Authority X
authority_of cert resources period terms depth asked provider = record {
  cert = cert;
  resources = resources;
  period = period;
  terms = terms;
  depth = depth;
  asked = asked;
  provider = provider;
}

abbrev pub verified_by : {X : Type 0} → Models X → Authority X → Verified
verified_by models a = record {
  cert = a.cert;
  resources = a.resources;
  period = a.period;
  terms = a.terms;
  depth = a.depth;
  asked = a.asked;
  by = checkers_of models a.provider;
}

-- all of its path is valid at each moment of the period
abbrev pub IsVerified : Verified → Type 0
IsVerified v =
    (m : DateTime) → HoldsAt v.period m → IsAuthorityAt v.terms v.asked v.by m v.depth (holder v.cert v.resources)

-- what a verified authority has issued, and of which all of the path is valid at the moment, and which the list, where
-- there is one, doesn't have, has these resources
pub record IsOnPath (list : Option CrlParts) (issuer : Verified) (at : DateTime) (x : CertParts) (held : ResourceSet)
    : Type 0 where
  pub period : HoldsAt issuer.period at
  pub issued : IsIssued issuer.by issuer.cert.tbs at x
  pub unrevoked : IsUnrevoked list x
  pub resources : HasResources x.tbs.extensions issuer.resources held

-- the same of a certificate of this profile
pub record IsVerifiedBy (profile : Profile) (list : Option CrlParts) (issuer : Verified) (at : DateTime)
    (x : CertParts) (held : ResourceSet) : Type 0 where
  pub profiled : HasProfile profile issuer.terms.strictness.names x.tbs
  pub path : IsOnPath list issuer at x held

-- a path of authorities, on each step of which so much is asked of lists, leads from a certificate of this profile,
-- which has these resources, and of whose list so much is asked, to a trust anchor
pub record HasPath (profile : Profile) (terms : Terms) (above asked : Option Staleness) (by : Checkers) (at : DateTime)
    (x : Holder) : Type 0 where
  pub depth : ℕ
  pub issuer : Holder
  pub authority : IsAuthorityAt terms above by at depth issuer
  pub link : IsLink profile terms.strictness.names asked by at issuer x

-- an authority below another, or the other itself: each certificate between them is issued by the one above
pub data DescendsFrom (strict : Bool) (asked : Option Staleness) (by : Checkers) (at : DateTime) (top : Holder) : Holder
    → Type 0 where
  Itself : DescendsFrom strict asked by at top top
  Below : (issuer x : Holder) → DescendsFrom strict asked by at top issuer
      → IsLink Ca strict asked by at issuer x → DescendsFrom strict asked by at top x

-- what the one has the other has
abbrev pub HoldsWithin : Holder → Holder → Type 0
HoldsWithin x top = AreWithin x.resources top.resources

-- down a path nobody has more than an authority above
abbrev pub SettleWithin : Checkers → Type 0
SettleWithin by =
    (strict : Bool) (asked : Option Staleness) (at : DateTime) (top x : Holder)
    → DescendsFrom strict asked by at top x → HoldsWithin x top

-- ---- the errors

-- the error of what is not on a path: that of the period of the issuer's path; else that of verify_issued; else that of
-- a revoked certificate; else that of resources, or of an allocation
abbrev pub IsOffPath : Option CrlParts → Verified → DateTime → CertParts → ValidationError → Type 0
IsOffPath list issuer at x =
    Unless (HoldsAt issuer.period at) (IsPeriodError issuer.period at)
    (Unless (IsIssued issuer.by issuer.cert.tbs at x)
    (IsUnissued issuer.by issuer.cert.tbs at x)
    (Unless (IsUnrevoked list x) (HasReason revoked_text)
    (HasNoResources x.tbs.extensions issuer.resources)))

-- that of the first rule of the profile that is broken; else that of the path
abbrev pub IsUnverified : Profile → Option CrlParts → Verified → DateTime → CertParts → ValidationError → Type 0
IsUnverified profile list issuer at x =
    Unless (HasProfile profile issuer.terms.strictness.names x.tbs)
    (IsFirstError issuer.terms.strictness.names x.tbs (rules_of profile))
    (IsOffPath list issuer at x)

abbrev pub IsNoRoot : Terms → Checkers → DateTime → CertParts → ValidationError → Type 0
IsNoRoot terms by at x =
    Unless (HasProfile Ta terms.strictness.names x.tbs) (IsFirstError terms.strictness.names x.tbs (rules_of Ta))
    (Unless (IsAnchor by at x) (IsNoAnchor by at x)
    (Unless (x.tbs.key ≡ terms.key) (HasReason other_key_text) IsOut))

-- ---- checks

-- no resources are such, unless allocation failed, and E is the error
abbrev pub IsRefusedWith : (ResourceSet → Type 0) → (ValidationError → Type 0) → ValidationError → Type 0
IsRefusedWith P E e = UnlessNoMemory e ((x : ResourceSet) → P x → ⊥) × E e

-- a check that returns resources
abbrev pub ChecksWith : (ResourceSet → Type 0) → (ValidationError → Type 0) → Result ResourceSet ValidationError
    → Type 0
ChecksWith P E r = MatchResult r P (IsRefusedWith P E)

abbrev pub IsRootWith : Terms → Checkers → DateTime → CertParts → ResourceSet → Type 0
IsRootWith terms by at x resources = IsRoot terms by at (holder x resources)

-- it isn't one, and this is the error
abbrev pub IsRefusedLink : Profile → Option CrlParts → Verified → DateTime → CertParts → ValidationError → Type 0
IsRefusedLink profile list issuer at x =
    IsRefusedWith (IsVerifiedBy profile list issuer at x) (IsUnverified profile list issuer at x)

-- the issuer is as deep as its path may be; or the certificate is no authority below it
abbrev pub IsRefusedAuthority : Option CrlParts → Verified → DateTime → CertParts → ValidationError → Type 0
IsRefusedAuthority list issuer at x =
    Unless (issuer.depth < issuer.terms.deepest) (HasReason too_long_text)
    (IsRefusedLink Ca list issuer at x)

abbrev pub IsRefusedRoot : Terms → Checkers → DateTime → CertParts → ValidationError → Type 0
IsRefusedRoot terms by at x = IsRefusedWith (IsRootWith terms by at x) (IsNoRoot terms by at x)

abbrev pub ChecksPath : Option CrlParts → Verified → DateTime → CertParts → Result ResourceSet ValidationError → Type 0
ChecksPath list issuer at x = ChecksWith (IsOnPath list issuer at x) (IsOffPath list issuer at x)

abbrev pub ChecksLink : Profile → Option CrlParts → Verified → DateTime → CertParts
    → Result ResourceSet ValidationError → Type 0
ChecksLink profile list issuer at x =
    ChecksWith (IsVerifiedBy profile list issuer at x) (IsUnverified profile list issuer at x)

abbrev pub ChecksRoot : Terms → Checkers → DateTime → CertParts → Result ResourceSet ValidationError → Type 0
ChecksRoot terms by at x = ChecksWith (IsRootWith terms by at x) (IsNoRoot terms by at x)
