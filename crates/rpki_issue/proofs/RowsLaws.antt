-- Extensions that are written are extensions.
use Rattle.std.proofs.Common.{◌≡◌, ◌≤◌, ◌<◌, ◌^◌, ℕ, Bool, true, false, List, [], ◌∷◌, ◌++◌, length, refl, arith}
use Rattle.std.proofs.Common.{lit<, length-append, Option}
use Rattle.rpki_der.specs.Prelude.{oid, boolean, octet_string, tlv, IsOid}
use Rattle.rpki_der.proofs.EncodeLaws.{tlv_at_most}
use Rattle.rpki.specs.Extension.{critical_octets, extension_contents}
use Rattle.rpki.specs.ExtensionValue.{extension_parts, CanBeWritten}
use Rattle.rpki.proofs.NamedLaws.{plain-oid}
use Rattle.rpki_x509.specs.Authority.{authority_key_identifier}
use Rattle.rpki_cert.specs.declared.extension.key_usage.KeyUsage.{KeyUsage}
use Rattle.rpki_cert.specs.Known.{subject_key_identifier, key_usage, basic_constraints, crl_distribution_points}
use Rattle.rpki_cert.specs.Known.{certificate_policies, extended_key_usage, authority_info_access}
use Rattle.rpki_cert.specs.Known.{subject_info_access, ip_addr_blocks, autonomous_sys_ids}
use Rattle.rpki_cert.specs.Access.{ca_issuers, signed_object}
use Rattle.rpki_issue.specs.declared.kind.Repository.{Repository}
use Rattle.rpki_issue.specs.Contents.{constraints_octets, usage_octets, purposes_octets, subject_octets}
use Rattle.rpki_issue.specs.Contents.{authority_octets, policies_octets, points_octets, access_octets}
use Rattle.rpki_issue.specs.Contents.{repository_access, CanPoint, CanPublish, CanState}
use Rattle.rpki_issue.specs.Rows.{constraints_extension, subject_extension, authority_extension, usage_extension}
use Rattle.rpki_issue.specs.Rows.{purposes_extension, points_extension, issuers_extension, repository_extension}
use Rattle.rpki_issue.specs.Rows.{object_extension, policies_extension, addresses_extension, numbers_extension}
use Rattle.rpki_issue.proofs.ContentsLaws.{constraints-few, usage-few, purposes-few, subject-few, authority-few}
use Rattle.rpki_issue.proofs.ContentsLaws.{policies-few, points-few, access-few, described, repository-described}
use Rattle.rpki_issue.proofs.ContentsLaws.{repository-three}

pub critical-few : (critical : Bool) → length (critical_octets critical) ≤ 11
critical-few true = tlv_at_most boolean false (255 ∷ [])
critical-few false = omega arith

pub contents-few : (identifier : List ℕ) (critical : Bool) (content : List ℕ) → length identifier ≤ 8
    → length content < 2 ^ 31 → length (extension_contents identifier critical content) < 2 ^ 32
contents-few identifier critical content one two = omega (
  arith,
  one,
  two,
  critical-few critical,
  tlv_at_most oid false identifier,
  tlv_at_most octet_string false content,
  length-append (tlv oid false identifier ++ critical_octets critical) (tlv octet_string false content),
  length-append (tlv oid false identifier) (critical_octets critical),
)

pub can-write : (identifier : List ℕ) (critical : Bool) (content : List ℕ) → IsOid identifier
    → length identifier ≤ 8 → length content < 2 ^ 31 → CanBeWritten (extension_parts identifier critical content)
can-write identifier critical content valid one two =
    record { identifier = valid; short = contents-few identifier critical content one two }

-- ---- those of certificates

pub constraints-legal : CanBeWritten constraints_extension
constraints-legal =
    can-write basic_constraints true constraints_octets (plain-oid basic_constraints refl (lit< tt) (lit< tt))
    (omega arith) (omega (arith, constraints-few))

pub subject-legal : (k : List ℕ) → length k ≡ 20 → CanBeWritten (subject_extension k)
subject-legal k size =
    let few = subject-few k size in
    can-write subject_key_identifier false (subject_octets k)
    (plain-oid subject_key_identifier refl (lit< tt) (lit< tt)) (omega arith) (omega (arith, few))

pub authority-legal : (k : List ℕ) → length k ≡ 20 → CanBeWritten (authority_extension k)
authority-legal k size =
    let few = authority-few k size in
    can-write authority_key_identifier false (authority_octets k)
    (plain-oid authority_key_identifier refl (lit< tt) (lit< tt)) (omega arith) (omega (arith, few))

pub usage-legal : (u : KeyUsage) → CanBeWritten (usage_extension u)
usage-legal u =
    let few = usage-few u in
    can-write key_usage true (usage_octets u) (plain-oid key_usage refl (lit< tt) (lit< tt)) (omega arith)
    (omega (arith, few))

pub purposes-legal : CanBeWritten purposes_extension
purposes-legal =
    can-write extended_key_usage false purposes_octets (plain-oid extended_key_usage refl (lit< tt) (lit< tt))
    (omega arith) (omega (arith, purposes-few))

pub points-legal : (uri : List ℕ) → CanPoint uri → CanBeWritten (points_extension uri)
points-legal uri can =
    let few = points-few uri can.few in
    can-write crl_distribution_points false (points_octets uri)
    (plain-oid crl_distribution_points refl (lit< tt) (lit< tt)) (omega arith) (omega (arith, few))

pub issuers-legal : (uri : List ℕ) → CanPoint uri → CanBeWritten (issuers_extension uri)
issuers-legal uri can =
    let one = described ca_issuers uri (plain-oid ca_issuers refl (lit< tt) (lit< tt)) (omega arith) can in
    let few = access-few ((ca_issuers, uri) ∷ []) (one, tt) (omega arith) in
    can-write authority_info_access false (access_octets ((ca_issuers, uri) ∷ []))
    (plain-oid authority_info_access refl (lit< tt) (lit< tt)) (omega arith) (omega (arith, few))

pub object-legal : (uri : List ℕ) → CanPoint uri → CanBeWritten (object_extension uri)
object-legal uri can =
    let one = described signed_object uri (plain-oid signed_object refl (lit< tt) (lit< tt)) (omega arith) can in
    let few = access-few ((signed_object, uri) ∷ []) (one, tt) (omega arith) in
    can-write subject_info_access false (access_octets ((signed_object, uri) ∷ []))
    (plain-oid subject_info_access refl (lit< tt) (lit< tt)) (omega arith) (omega (arith, few))

pub repository-legal : (r : Repository) → CanPublish r → CanBeWritten (repository_extension r)
repository-legal r can =
    let few = access-few (repository_access r) (repository-described r can) (repository-three r) in
    can-write subject_info_access false (access_octets (repository_access r))
    (plain-oid subject_info_access refl (lit< tt) (lit< tt)) (omega arith) (omega (arith, few))

pub policies-legal : (practices : Option (List ℕ)) → CanState practices → CanBeWritten (policies_extension practices)
policies-legal practices can =
    let few = policies-few practices can in
    can-write certificate_policies true (policies_octets practices)
    (plain-oid certificate_policies refl (lit< tt) (lit< tt)) (omega arith) (omega (arith, few))

pub addresses-legal : (octets : List ℕ) → length octets < 2 ^ 31 → CanBeWritten (addresses_extension octets)
addresses-legal octets few =
    can-write ip_addr_blocks true octets (plain-oid ip_addr_blocks refl (lit< tt) (lit< tt)) (omega arith) few

pub numbers-legal : (octets : List ℕ) → length octets < 2 ^ 31 → CanBeWritten (numbers_extension octets)
numbers-legal octets few =
    can-write autonomous_sys_ids true octets (plain-oid autonomous_sys_ids refl (lit< tt) (lit< tt)) (omega arith) few
