use Rattle.std.proofs.Common.{IsTrue}
use Rattle.rpki_cert.specs.declared.profile.rule.CertRule.TheVariants.{ResourceBlocks, OwnResources}
use Rattle.rpki_cert.specs.Cert.{find}
use Rattle.rpki_cert.specs.Known.{authority_info_access, basic_constraints}
use Rattle.rpki_x509.specs.Authority.{authority_key_identifier}
use Rattle.rpki_cert.specs.Known.{certificate_policies, key_usage, subject_info_access, subject_key_identifier}
use Rattle.rpki_cert.specs.ResourceExtensions.{AreWellFormed, AreOwn}
use Rattle.rpki_cert.specs.RuleError.{SaysRule}
use Rattle.rpki_cert.proofs.RuleLaws.{by-test}
use Rattle.rpki_cert.proofs.profile.inspected.Inspected.inspect_rule.Goals as goal

pub returns-in-SerialNumber : goal.returns-in-SerialNumber
returns-in-SerialNumber c = λ t h. rw c.in-SerialNumber.is (rw h.serial at c.inspect_serial.ensures)

pub returns-in-CriticalExtensions : goal.returns-in-CriticalExtensions
returns-in-CriticalExtensions c = λ t h. rw c.in-CriticalExtensions.is
    (rw (c.are_understood.ensures t.extensions h.extensions) at c.inspect_that.ensures)

pub returns-in-Issuer : goal.returns-in-Issuer
returns-in-Issuer c = λ t h. rw c.in-Issuer.is (rw h.issuer at c.inspect_name.ensures)

pub returns-in-IssuerSize : goal.returns-in-IssuerSize
returns-in-IssuerSize c = λ t h. rw c.in-IssuerSize.is (rw h.issuer at c.inspect_values.ensures)

pub returns-in-SubjectSize : goal.returns-in-SubjectSize
returns-in-SubjectSize c = λ t h. rw c.in-SubjectSize.is (rw h.subject at c.inspect_values-in-SubjectSize.ensures)

pub returns-in-RouterSerialNumber : goal.returns-in-RouterSerialNumber
returns-in-RouterSerialNumber c = λ t h. rw c.in-RouterSerialNumber.is
    (rw h.subject at c.inspect_values-in-RouterSerialNumber.ensures)

pub returns-in-Subject : goal.returns-in-Subject
returns-in-Subject c = λ t h. rw c.in-Subject.is (rw h.subject at c.inspect_name-in-Subject.ensures)

pub returns-in-RouterSubject : goal.returns-in-RouterSubject
returns-in-RouterSubject c = λ t h. rw c.in-RouterSubject.is (rw h.subject at c.inspect_router_name.ensures)

pub returns-in-RsaKey : goal.returns-in-RsaKey
returns-in-RsaKey c = λ t h. rw c.in-RsaKey.is (rw h.key at c.inspect_key.ensures)

pub returns-in-RouterKey : goal.returns-in-RouterKey
returns-in-RouterKey c = λ t h. rw c.in-RouterKey.is (rw h.key at c.inspect_router_key.ensures)

pub returns-in-BasicConstraints : goal.returns-in-BasicConstraints
returns-in-BasicConstraints c = λ t h. rw c.in-BasicConstraints.is
    (c.inspect_constraints.ensures (find basic_constraints t.extensions) h.values.constraints)

pub returns-in-NoBasicConstraints : goal.returns-in-NoBasicConstraints
returns-in-NoBasicConstraints c = λ t h. rw c.in-NoBasicConstraints.is
    (rw (c.find.ensures t.extensions h.extensions) at c.inspect_absent.ensures)

pub returns-in-SubjectKeyIdentifier : goal.returns-in-SubjectKeyIdentifier
returns-in-SubjectKeyIdentifier c = λ t h. rw c.in-SubjectKeyIdentifier.is
    (c.inspect_said.ensures (find subject_key_identifier t.extensions) h.values.subject)

pub returns-in-AuthorityKeyIdentifier : goal.returns-in-AuthorityKeyIdentifier
returns-in-AuthorityKeyIdentifier c = λ t h. rw c.in-AuthorityKeyIdentifier.is
    (c.inspect_said-in-AuthorityKeyIdentifier.ensures (find authority_key_identifier t.extensions) h.values.authority)

pub returns-in-AuthorityUsage : goal.returns-in-AuthorityUsage
returns-in-AuthorityUsage c = λ t h. rw c.in-AuthorityUsage.is
    (c.inspect_usage.ensures (find key_usage t.extensions) h.values.usage)

pub returns-in-EndUsage : goal.returns-in-EndUsage
returns-in-EndUsage c = λ t h. rw c.in-EndUsage.is
    (c.inspect_usage-in-EndUsage.ensures (find key_usage t.extensions) h.values.usage)

pub returns-in-NoExtendedKeyUsage : goal.returns-in-NoExtendedKeyUsage
returns-in-NoExtendedKeyUsage c = λ t h. rw c.in-NoExtendedKeyUsage.is
    (rw (c.find-in-NoExtendedKeyUsage.ensures t.extensions h.extensions)
    at c.inspect_absent-in-NoExtendedKeyUsage.ensures)

pub returns-in-RouterPurpose : goal.returns-in-RouterPurpose
returns-in-RouterPurpose c = λ t h. rw c.in-RouterPurpose.is
    (rw (c.find-in-RouterPurpose.ensures t.extensions h.extensions) at c.inspect_purpose.ensures)

pub returns-in-RevocationList : goal.returns-in-RevocationList
returns-in-RevocationList c = λ t h. rw c.in-RevocationList.is
    (rw (c.find-in-RevocationList.ensures t.extensions h.extensions) at c.inspect_revocation.ensures)

pub returns-in-NoRevocationList : goal.returns-in-NoRevocationList
returns-in-NoRevocationList c = λ t h. rw c.in-NoRevocationList.is
    (rw (c.find-in-NoRevocationList.ensures t.extensions h.extensions) at c.inspect_absent-in-NoRevocationList.ensures)

pub returns-in-IssuerCertificate : goal.returns-in-IssuerCertificate
returns-in-IssuerCertificate c = λ t h. rw c.in-IssuerCertificate.is
    (c.inspect_access.ensures (find authority_info_access t.extensions)
    (rw (c.find-in-IssuerCertificate.ensures t.extensions h.extensions) at c.information_in.ensures))

pub returns-in-NoIssuerCertificate : goal.returns-in-NoIssuerCertificate
returns-in-NoIssuerCertificate c = λ t h. rw c.in-NoIssuerCertificate.is
    (rw (c.find-in-NoIssuerCertificate.ensures t.extensions h.extensions)
    at c.inspect_absent-in-NoIssuerCertificate.ensures)

pub returns-in-Repository : goal.returns-in-Repository
returns-in-Repository c = λ t h. rw c.in-Repository.is
    (c.inspect_access-in-Repository.ensures (find subject_info_access t.extensions) h.access)

pub returns-in-Manifest : goal.returns-in-Manifest
returns-in-Manifest c = λ t h. rw c.in-Manifest.is
    (c.inspect_access-in-Manifest.ensures (find subject_info_access t.extensions) h.access)

pub returns-in-SignedObject : goal.returns-in-SignedObject
returns-in-SignedObject c = λ t h. rw c.in-SignedObject.is
    (c.inspect_access-in-SignedObject.ensures (find subject_info_access t.extensions) h.access)

pub returns-in-NoSubjectAccess : goal.returns-in-NoSubjectAccess
returns-in-NoSubjectAccess c = λ t h. rw c.in-NoSubjectAccess.is
    (rw (c.find-in-NoSubjectAccess.ensures t.extensions h.extensions) at c.inspect_absent-in-NoSubjectAccess.ensures)

pub returns-in-CertificatePolicies : goal.returns-in-CertificatePolicies
returns-in-CertificatePolicies c = λ t h. rw c.in-CertificatePolicies.is
    (c.inspect_said-in-CertificatePolicies.ensures (find certificate_policies t.extensions) h.values.policy)

pub returns-in-Resources : goal.returns-in-Resources
returns-in-Resources c = λ t h. rw c.in-Resources.is
    (rw (c.has_resources.ensures t.extensions h.extensions) at c.inspect_that-in-Resources.ensures)

pub returns-in-RouterNumbers : goal.returns-in-RouterNumbers
returns-in-RouterNumbers c = λ t h. rw c.in-RouterNumbers.is
    (rw (c.has_numbers_alone.ensures t.extensions h.extensions) at c.inspect_that-in-RouterNumbers.ensures)

pub returns-in-ObjectAccess : goal.returns-in-ObjectAccess
returns-in-ObjectAccess c = λ t h. rw c.in-ObjectAccess.is
    (c.inspect_held.ensures (find subject_info_access t.extensions) h.access)

pub returns-in-ManifestPlace : goal.returns-in-ManifestPlace
returns-in-ManifestPlace c = λ t h. rw c.in-ManifestPlace.is
    (c.inspect_place.ensures (find subject_info_access t.extensions) h.access)

pub returns-in-Notifications : goal.returns-in-Notifications
returns-in-Notifications c = λ t h. rw c.in-Notifications.is
    (c.inspect_held-in-Notifications.ensures (find subject_info_access t.extensions) h.access)

pub returns-in-Validity : goal.returns-in-Validity
returns-in-Validity c = λ t h. rw c.in-Validity.is (rw h.validity at c.inspect_validity.ensures)

pub returns-in-OwnAuthority : goal.returns-in-OwnAuthority
returns-in-OwnAuthority c = λ t h. rw c.in-OwnAuthority.is
    (c.inspect_own_authority.ensures (find authority_key_identifier t.extensions)
    (find subject_key_identifier t.extensions) h.values.authority h.values.subject)

pub returns-in-SelfIssued : goal.returns-in-SelfIssued
returns-in-SelfIssued c = λ t h. rw c.in-SelfIssued.is (rw (h.issuer, h.subject) at c.inspect_same.ensures)

pub returns-in-ResourceVersion : goal.returns-in-ResourceVersion
returns-in-ResourceVersion c = λ t h. rw c.in-ResourceVersion.is
    (c.inspect_version.ensures t.extensions h.extensions h.values.policy)

pub returns-in-ResourceBlocks : goal.returns-in-ResourceBlocks
returns-in-ResourceBlocks c = λ t h. rw c.in-ResourceBlocks.is
    (by-test (AreWellFormed t.extensions) (IsTrue c.are_well_formed.result) (SaysRule ResourceBlocks)
    c.inspect_that-in-ResourceBlocks.result (c.are_well_formed.ensures t.extensions h.extensions)
    c.inspect_that-in-ResourceBlocks.ensures)

pub returns-in-OwnResources : goal.returns-in-OwnResources
returns-in-OwnResources c = λ t h. rw c.in-OwnResources.is
    (by-test (AreOwn t.extensions) (IsTrue c.are_own.result) (SaysRule OwnResources)
    c.inspect_that-in-OwnResources.result (c.are_own.ensures t.extensions h.extensions)
    c.inspect_that-in-OwnResources.ensures)
