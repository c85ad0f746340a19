-- What a status says of the kinds of resources that the certificate of an attestation lists.
use Rattle.std.specs.Prelude.{◌≡◌, ◌⊎◌, ℕ, List}
use Rattle.rpki.specs.ExtensionValue.{ExtensionParts}
use Rattle.rpki_cert.specs.declared.extension.policy.Overclaim.{Overclaim}
use Rattle.rpki_cert.specs.Cert.{CertParts}
use Rattle.rpki_valid.specs.ObjectResources.{HasAddresses, HasNumbers, AreOwnAddresses, AreOwnNumbers}
use Rattle.rpki_c.specs.Policy.{HasPolicy, HasNoPolicy}
use Rattle.rpki_c.specs.Status.{other_kinds}

-- addresses are named, which are not the issuer's, and no AS numbers (RFC 9582 5)
pub record ListsAddresses (xs : List ExtensionParts) : Type 0 where
  pub there : HasAddresses xs
  pub own : AreOwnAddresses xs
  pub alone : HasNumbers xs → ⊥

-- AS numbers are named, which are not the issuer's, and no addresses (draft-ietf-sidrops-aspa-profile 4)
pub record ListsNumbers (xs : List ExtensionParts) : Type 0 where
  pub there : HasNumbers xs
  pub own : AreOwnNumbers xs
  pub alone : HasAddresses xs → ⊥

-- 64 to 84, 108, 115: the certificate isn't read, has no policies, or has resources of the other version than its
-- policy's. Else it is one whose resources its policy's extensions alone say. 0: this holds of them. 61: it doesn't.
abbrev pub IsSigner : (List ExtensionParts → Type 0) → List ℕ → ℕ → Type 0
IsSigner holds s status =
    HasNoPolicy s status
    ⊎ ((x : CertParts) × (policy : Overclaim) × HasPolicy s x policy
    × (((status ≡ 0) × holds x.tbs.extensions) ⊎ ((status ≡ other_kinds) × (holds x.tbs.extensions → ⊥))))

abbrev pub IsRoaSigner : List ℕ → ℕ → Type 0
IsRoaSigner = IsSigner ListsAddresses

abbrev pub IsAspaSigner : List ℕ → ℕ → Type 0
IsAspaSigner = IsSigner ListsNumbers
