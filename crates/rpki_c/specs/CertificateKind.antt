-- What a status says of what a certificate says that it is.
use Rattle.std.specs.Prelude.{◌≡◌, ◌⊎◌, ◌↔◌, ℕ, Bool, List, IsTrue, if◌then◌else◌}
use Rattle.rpki_cert.specs.declared.extension.known_view.KnownView.{KnownView}
use Rattle.rpki_cert.specs.declared.profile.Profile.{Profile}
use Rattle.rpki_cert.specs.declared.profile.Profile.TheVariants.{Ta, Ca, Ee, Router, DetachedEe}
use Rattle.rpki_cert.specs.Cert.{CertParts, find, is_there}
use Rattle.rpki_cert.specs.Known.{extended_key_usage, subject_info_access}
use Rattle.rpki_c.specs.Certificate.{HasKnown, IsUnknown}
use Rattle.rpki_c.specs.CertificateProfile.{profile_number}

-- Of an authority, by its basic constraints: a trust anchor where its issuer is its subject (RFC 5280 3.2). Of an end
-- entity: a router where it has extended purposes (RFC 8209 3.1.3.2); else one whose object is in no repository where
-- it has no access information of the subject (RFC 9323 2).
abbrev pub profile_by : (ca self_issued purposes access : Bool) → Profile
profile_by ca self_issued purposes access =
    if ca then (if self_issued then Ta else Ca) else if purposes then Router else if access then Ee else DetachedEe

-- the octets are a certificate, and this is the number of the profile of what it says that it is
pub record HasKind (s : List ℕ) (kind : ℕ) : Type 0 where
  pub x : CertParts
  pub known : KnownView
  pub read : HasKnown s x known
  pub self_issued : Bool
  pub issued : IsTrue self_issued ↔ (x.tbs.issuer ≡ x.tbs.subject)
  pub is : kind ≡ profile_number (profile_by known.ca self_issued (is_there (find extended_key_usage x.tbs.extensions))
      (is_there (find subject_info_access x.tbs.extensions)))

-- Status 0: the number is written. Else the certificate isn't read, and nothing is written.
abbrev pub IsKindRead : List ℕ → ℕ → ℕ → ℕ → Type 0
IsKindRead s status old new = ((status ≡ 0) × HasKind s new) ⊎ (IsUnknown s status × (new ≡ old))
