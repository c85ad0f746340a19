-- How a certificate violates a profile, in words.
use Rattle.std.specs.Prelude.{◌||◌, ℕ, nat_eq, Bool, if◌then◌else◌, List, [], ◌++◌, codes, unwrap_or}
use Rattle.std.specs.List.{starts_with}
use Rattle.rpki.specs.ErrorContent.{validation_text}
use Rattle.rpki_cert.specs.declared.profile.rule.CertRule.{CertRule}
use Rattle.rpki_cert.specs.declared.profile.rule.CertRule.TheVariants.{Issuer, Subject, RouterSubject, BasicConstraints}
use Rattle.rpki_cert.specs.declared.profile.rule.CertRule.TheVariants.{SubjectKeyIdentifier, AuthorityKeyIdentifier}
use Rattle.rpki_cert.specs.declared.profile.rule.CertRule.TheVariants.{OwnAuthority, AuthorityUsage, EndUsage}
use Rattle.rpki_cert.specs.declared.profile.rule.CertRule.TheVariants.{RouterPurpose, RevocationList}
use Rattle.rpki_cert.specs.declared.profile.rule.CertRule.TheVariants.{IssuerCertificate, Repository, Manifest}
use Rattle.rpki_cert.specs.declared.profile.rule.CertRule.TheVariants.{SignedObject, CertificatePolicies}
use Rattle.rpki_cert.specs.declared.profile.rule.CertRule.TheVariants.{ResourceVersion}
use Rattle.rpkicert.specs.declared.violation.Violation.{Violation}

-- the section of a rule on a name, or on an extension that has to be there, and which it is
abbrev pub part_text : CertRule → List ℕ
part_text Issuer = codes "RFC 6487 4.4: issuer: "
part_text Subject = codes "RFC 6487 4.5: subject: "
part_text RouterSubject = codes "RFC 8209 3.1.1: subject: "
part_text BasicConstraints = codes "RFC 6487 4.8.1: basic constraints: "
part_text SubjectKeyIdentifier = codes "RFC 6487 4.8.2: subject key identifier: "
part_text AuthorityKeyIdentifier = codes "RFC 6487 4.8.3: authority key identifier: "
part_text OwnAuthority = codes "RFC 6487 4.8.3: authority key identifier: "
part_text AuthorityUsage = codes "RFC 6487 4.8.4: key usage: "
part_text EndUsage = codes "RFC 6487 4.8.4: key usage: "
part_text RouterPurpose = codes "RFC 8209 3.1.3.2: extended key usage: "
part_text RevocationList = codes "RFC 6487 4.8.6: CRL distribution points: "
part_text IssuerCertificate = codes "RFC 6487 4.8.7: authority information access: "
part_text Repository = codes "RFC 6487 4.8.8.1: subject information access: "
part_text Manifest = codes "RFC 6487 4.8.8.1: subject information access: "
part_text SignedObject = codes "RFC 6487 4.8.8.2: subject information access: "
part_text CertificatePolicies = codes "RFC 6487 4.8.9: certificate policies: "
part_text ResourceVersion = codes "RFC 6487 4.8.9: certificate policies: "
part_text rule = []

-- the text begins with a section, as those of rules do
abbrev pub has_section : List ℕ → Bool
has_section text = starts_with nat_eq text (codes "RFC ") || starts_with nat_eq text (codes "draft-")

-- an error after the section of its rule: an error that has none is that of a name, or of an extension that is
-- malformed or not as critical as it has to be
abbrev pub with_section : CertRule → List ℕ → List ℕ
with_section rule said = if has_section said then said else part_text rule ++ said

-- the section of the rule, and what is wrong
abbrev pub violation_text : Violation → List ℕ
violation_text v = with_section v.rule (unwrap_or (validation_text v.error) [])
