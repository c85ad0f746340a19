-- The table of the extensions of a certificate (RFC 6487 4.8).
use Rattle.std.specs.Prelude.{◌≡◌, ◌≢◌, ◌⊎◌, ◌-◌, ℕ, Bool, false, List, Option, Some, None}
use Rattle.std.specs.Prelude.{slice_index, get_or, length}
use denote.Bor.{Bor}
use Rattle.rpki_der.specs.Each.{SpellsEach}
use Rattle.rpki.specs.ExtensionValue.{ExtensionParts, extension_parts, SpellsExtension}
use Rattle.rpki_cert.specs.declared.extension.kind.ExtensionKind.{ExtensionKind}
use Rattle.rpki_cert.specs.Cert.{find}
use Rattle.rpki_cert.specs.Known.{subject_key_identifier, key_usage, basic_constraints, crl_distribution_points}
use Rattle.rpki_cert.specs.Known.{certificate_policies, extended_key_usage}
use Rattle.rpki_x509.specs.Authority.{authority_key_identifier}
use Rattle.rpki_cert.specs.Known.{authority_info_access, ip_addr_blocks, ip_addr_blocks_v2, autonomous_sys_ids}
use Rattle.rpki_cert.specs.Known.{autonomous_sys_ids_v2, subject_info_access, are_understood}

-- P holds of the extensions that s is
abbrev pub OfListed : List ℕ → (List ExtensionParts → Type 0) → Type 0
OfListed s P = (xs : List ExtensionParts) → SpellsEach SpellsExtension xs s → P xs

-- ---- kinds

-- the contents octets of the identifier
abbrev pub identifier_of : ExtensionKind → List ℕ
identifier_of ExtensionKind.SubjectKeyIdentifier = subject_key_identifier
identifier_of ExtensionKind.KeyUsage = key_usage
identifier_of ExtensionKind.BasicConstraints = basic_constraints
identifier_of ExtensionKind.CrlDistributionPoints = crl_distribution_points
identifier_of ExtensionKind.CertificatePolicies = certificate_policies
identifier_of ExtensionKind.AuthorityKeyIdentifier = authority_key_identifier
identifier_of ExtensionKind.ExtendedKeyUsage = extended_key_usage
identifier_of ExtensionKind.AuthorityInfoAccess = authority_info_access
identifier_of ExtensionKind.IpResources = ip_addr_blocks
identifier_of ExtensionKind.AsResources = autonomous_sys_ids
identifier_of ExtensionKind.SubjectInfoAccess = subject_info_access
identifier_of ExtensionKind.IpResourcesV2 = ip_addr_blocks_v2
identifier_of ExtensionKind.AsResourcesV2 = autonomous_sys_ids_v2

-- the slot of each
abbrev pub slot_of : ExtensionKind → ℕ
slot_of ExtensionKind.SubjectKeyIdentifier = 0
slot_of ExtensionKind.KeyUsage = 1
slot_of ExtensionKind.BasicConstraints = 2
slot_of ExtensionKind.CrlDistributionPoints = 3
slot_of ExtensionKind.CertificatePolicies = 4
slot_of ExtensionKind.AuthorityKeyIdentifier = 5
slot_of ExtensionKind.ExtendedKeyUsage = 6
slot_of ExtensionKind.AuthorityInfoAccess = 7
slot_of ExtensionKind.IpResources = 8
slot_of ExtensionKind.AsResources = 9
slot_of ExtensionKind.SubjectInfoAccess = 10
slot_of ExtensionKind.IpResourcesV2 = 11
slot_of ExtensionKind.AsResourcesV2 = 12

-- the last octet of an identifier
abbrev pub ending : List ℕ → ℕ
ending id = slice_index id (length id - 1)

-- an extension of the identifier is in this slot: that of its kind; or the last, which all others share
abbrev pub IsSlot : List ℕ → ℕ → Type 0
IsSlot id n =
    ((k : ExtensionKind) × (id ≡ identifier_of k) × (n ≡ slot_of k))
    ⊎ (((k : ExtensionKind) → id ≢ identifier_of k) × (n ≡ 13))

-- ---- what is found

-- the extension of this identifier that is kept as its contents, or that there is none
abbrev pub kept_as : List ℕ → Bool → Option (Bor (List ℕ)) → Option ExtensionParts
kept_as id critical None = None
kept_as id critical (Some contents) = Some (extension_parts id critical contents.now)

-- in its slot is what is found of each kind, and whether all critical extensions are known is said
pub record IsTable (s : List ℕ) (contents : List (Option (Bor (List ℕ)))) (critical : List Bool) (understood : Bool)
    : Type 0 where
  pub found : (k : ExtensionKind) → OfListed s (λ xs.
      kept_as (identifier_of k) (get_or critical (slot_of k) false) (get_or contents (slot_of k) None)
      ≡ find (identifier_of k) xs)
  pub known : OfListed s (λ xs. understood ≡ are_understood xs)
