-- The identifier of each extension, and whether it is critical (RFC 6487 4.8).
use Rattle.std.specs.Prelude.{ℕ, Bool, true, false, List}
use Rattle.rpki.specs.ExtensionValue.{ExtensionParts, extension_parts}
use Rattle.rpki_x509.specs.Authority.{authority_key_identifier}
use Rattle.rpki_cert.specs.Known.{subject_key_identifier, key_usage, basic_constraints, crl_distribution_points}
use Rattle.rpki_cert.specs.Known.{certificate_policies, extended_key_usage, authority_info_access}
use Rattle.rpki_cert.specs.Known.{subject_info_access, ip_addr_blocks, autonomous_sys_ids}
use Rattle.rpki_issue.specs.declared.row.Row.{Row}
use Rattle.rpki_issue.specs.declared.row.Row.TheVariants.{BasicConstraints, SubjectKeyIdentifier}
use Rattle.rpki_issue.specs.declared.row.Row.TheVariants.{AuthorityKeyIdentifier, KeyUsage, ExtendedKeyUsage}
use Rattle.rpki_issue.specs.declared.row.Row.TheVariants.{CrlDistributionPoints, AuthorityInfoAccess}
use Rattle.rpki_issue.specs.declared.row.Row.TheVariants.{SubjectInfoAccess, CertificatePolicies, IpAddrBlocks}
use Rattle.rpki_issue.specs.declared.row.Row.TheVariants.{AutonomousSysIds}

abbrev pub identifier_of : Row → List ℕ
identifier_of BasicConstraints = basic_constraints
identifier_of SubjectKeyIdentifier = subject_key_identifier
identifier_of AuthorityKeyIdentifier = authority_key_identifier
identifier_of KeyUsage = key_usage
identifier_of ExtendedKeyUsage = extended_key_usage
identifier_of CrlDistributionPoints = crl_distribution_points
identifier_of AuthorityInfoAccess = authority_info_access
identifier_of SubjectInfoAccess = subject_info_access
identifier_of CertificatePolicies = certificate_policies
identifier_of IpAddrBlocks = ip_addr_blocks
identifier_of AutonomousSysIds = autonomous_sys_ids

abbrev pub is_critical : Row → Bool
is_critical BasicConstraints = true
is_critical SubjectKeyIdentifier = false
is_critical AuthorityKeyIdentifier = false
is_critical KeyUsage = true
is_critical ExtendedKeyUsage = false
is_critical CrlDistributionPoints = false
is_critical AuthorityInfoAccess = false
is_critical SubjectInfoAccess = false
is_critical CertificatePolicies = true
is_critical IpAddrBlocks = true
is_critical AutonomousSysIds = true

-- the extension with this content
abbrev pub row_parts : Row → List ℕ → ExtensionParts
row_parts row content = extension_parts (identifier_of row) (is_critical row) content
