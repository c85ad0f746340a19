-- What a status says of the policy that a certificate has, and of the version of its resources (RFC 6487 4.8.9, RFC
-- 8360 4.2).
use Rattle.std.specs.Prelude.{◌≡◌, ◌⊎◌, ℕ, List, None, Some, IsTrue, false}
use Rattle.rpki_cert.specs.declared.extension.known_view.KnownView.{KnownView}
use Rattle.rpki_cert.specs.declared.extension.policy.Overclaim.{Overclaim}
use Rattle.rpki_cert.specs.Cert.{CertParts}
use Rattle.rpki_cert.specs.RuleWords.{is_of_version}
use Rattle.rpki_c.specs.Certificate.{HasKnown, IsUnknown}
use Rattle.rpki_c.specs.Status.{no_policies, other_version}

-- the octets are a certificate of this policy, and no resources are there of the other version than the policy's
pub record HasPolicy (s : List ℕ) (x : CertParts) (policy : Overclaim) : Type 0 where
  pub known : KnownView
  pub read : HasKnown s x known
  pub policy_is : known.overclaim ≡ Some policy
  pub version : IsTrue (is_of_version policy x.tbs.extensions)

-- resources are there of the other version than the policy's
pub record HasOtherVersion (s : List ℕ) (x : CertParts) (policy : Overclaim) : Type 0 where
  pub known : KnownView
  pub read : HasKnown s x known
  pub policy_is : known.overclaim ≡ Some policy
  pub other : is_of_version policy x.tbs.extensions ≡ false

-- 64 to 84: the certificate isn't read. 108: it has no policies. 115: it has resources of the other version.
abbrev pub HasNoPolicy : List ℕ → ℕ → Type 0
HasNoPolicy s status =
    IsUnknown s status
    ⊎ ((x : CertParts) × (known : KnownView) × (status ≡ no_policies) × HasKnown s x known × (known.overclaim ≡ None))
    ⊎ ((x : CertParts) × (policy : Overclaim) × (status ≡ other_version) × HasOtherVersion s x policy)
