-- Each extension of a certificate that is issued: its identifier, whether it is critical, and its content (RFC 6487
-- 4.8, RFC 8209 3.1.3).
use Rattle.std.specs.Prelude.{ℕ, true, false, List, [], ◌∷◌, Option}
use Rattle.rpki.specs.ExtensionValue.{ExtensionParts, extension_parts}
use Rattle.rpki_x509.specs.Authority.{authority_key_identifier}
use Rattle.rpki_cert.specs.declared.extension.key_usage.KeyUsage.{KeyUsage}
use Rattle.rpki_cert.specs.Known.{subject_key_identifier, key_usage, basic_constraints, crl_distribution_points}
use Rattle.rpki_cert.specs.Known.{certificate_policies, extended_key_usage, authority_info_access}
use Rattle.rpki_cert.specs.Known.{subject_info_access, ip_addr_blocks, autonomous_sys_ids}
use Rattle.rpki_cert.specs.Access.{ca_issuers, signed_object}
use Rattle.rpki_issue.specs.declared.kind.Repository.{Repository}
use Rattle.rpki_issue.specs.Contents.{constraints_octets, usage_octets, purposes_octets, subject_octets}
use Rattle.rpki_issue.specs.Contents.{authority_octets, policies_octets, points_octets, access_octets}
use Rattle.rpki_issue.specs.Contents.{repository_access}

abbrev pub constraints_extension : ExtensionParts
constraints_extension = extension_parts basic_constraints true constraints_octets

abbrev pub subject_extension : List ℕ → ExtensionParts
subject_extension k = extension_parts subject_key_identifier false (subject_octets k)

abbrev pub authority_extension : List ℕ → ExtensionParts
authority_extension k = extension_parts authority_key_identifier false (authority_octets k)

abbrev pub usage_extension : KeyUsage → ExtensionParts
usage_extension u = extension_parts key_usage true (usage_octets u)

abbrev pub purposes_extension : ExtensionParts
purposes_extension = extension_parts extended_key_usage false purposes_octets

abbrev pub points_extension : List ℕ → ExtensionParts
points_extension uri = extension_parts crl_distribution_points false (points_octets uri)

abbrev pub issuers_extension : List ℕ → ExtensionParts
issuers_extension uri = extension_parts authority_info_access false (access_octets ((ca_issuers, uri) ∷ []))

abbrev pub repository_extension : Repository → ExtensionParts
repository_extension x = extension_parts subject_info_access false (access_octets (repository_access x))

abbrev pub object_extension : List ℕ → ExtensionParts
object_extension uri = extension_parts subject_info_access false (access_octets ((signed_object, uri) ∷ []))

abbrev pub policies_extension : Option (List ℕ) → ExtensionParts
policies_extension practices = extension_parts certificate_policies true (policies_octets practices)

-- of these octets
abbrev pub addresses_extension : List ℕ → ExtensionParts
addresses_extension octets = extension_parts ip_addr_blocks true octets

abbrev pub numbers_extension : List ℕ → ExtensionParts
numbers_extension octets = extension_parts autonomous_sys_ids true octets
