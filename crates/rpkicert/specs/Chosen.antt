-- Which profile a certificate is to have: the one that is named, or the one of what it says that it is.
use Rattle.std.specs.Prelude.{◌≡◌, ◌↔◌, ◌&&◌, Bool, true, false, IsTrue, if◌then◌else◌}
use Rattle.rpki_cert.specs.Cert.{TbsParts}
use Rattle.rpki_cert.specs.Rule.{Obeys}
use Rattle.rpki_cert.specs.declared.profile.Profile.{Profile}
use Rattle.rpki_cert.specs.declared.profile.Profile.TheVariants.{Ta, Ca, Ee, DetachedEe, Router}
use Rattle.rpki_cert.specs.declared.profile.rule.CertRule.{CertRule}
use Rattle.rpki_cert.specs.declared.profile.rule.CertRule.TheVariants.{NoBasicConstraints, RouterPurpose, SelfIssued}
use Rattle.rpki_cert.specs.declared.profile.rule.CertRule.TheVariants.{NoSubjectAccess, OwnAuthority}
use Rattle.rpkicert.specs.declared.choice.Choice.{Choice}
use Rattle.rpkicert.specs.declared.choice.Choice.TheVariants.{Named, Auto}

-- Of an end entity, which has no basic constraints (RFC 6487 4.8.1): that of a router where its extended key usage has
-- the purpose of one (RFC 8209 3.1.3.2); of an end entity without subject information access where it has none (RFC
-- 9323 2), which each that signs an object of a repository has (RFC 6487 4.8.8.2); else of one that signs an object.
-- Of an authority: that of a trust anchor where it is self-issued (RFC 5280 3.2), and the authority key identifier is
-- left out, or that of its own key (RFC 6487 4.8.3); else of a certification authority.
abbrev pub profile_by : (end router detached self_issued own_key : Bool) → Profile
profile_by end router detached self_issued own_key =
    if end then (if router then Router else if detached then DetachedEe else Ee)
    else if self_issued && own_key then Ta else Ca

-- this is whether the certificate obeys the rule
abbrev pub IsMark : TbsParts → CertRule → Bool → Type 0
IsMark t rule obeyed = IsTrue obeyed ↔ Obeys true t rule

-- the profile is that of what the certificate says that it is
pub record IsOwnProfile (t : TbsParts) (profile : Profile) : Type 0 where
  pub end : Bool
  pub router : Bool
  pub detached : Bool
  pub self_issued : Bool
  pub own_key : Bool
  pub of_end : IsMark t NoBasicConstraints end
  pub of_router : IsMark t RouterPurpose router
  pub of_access : IsMark t NoSubjectAccess detached
  pub of_issuer : IsMark t SelfIssued self_issued
  pub of_key : IsMark t OwnAuthority own_key
  pub by_marks : profile ≡ profile_by end router detached self_issued own_key

-- a profile was named
abbrev pub is_named : Choice → Bool
is_named (Named profile) = true
is_named Auto = false

-- the profile that a certificate is to have
abbrev pub IsChosen : Choice → TbsParts → Profile → Type 0
IsChosen (Named named) t profile = profile ≡ named
IsChosen Auto t profile = IsOwnProfile t profile
