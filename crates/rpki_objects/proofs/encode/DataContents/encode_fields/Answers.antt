use Rattle.rpki_x509.proofs.WrittenLaws.{appended}
use Rattle.rpki_objects.proofs.encode.DataContents.encode_fields.Goals as goal

pub returns-clause-octets : goal.returns-clause-octets
returns-clause-octets c =
    appended c.encode_version.ensures.octets
    (appended c.encode_set-digests.ensures.octets
    (appended c.encode_content-content.ensures.octets
    (appended c.encode_certificates-certificates.ensures.octets c.encode_signers-signers.ensures.octets)))

pub returns-clause-short : goal.returns-clause-short
returns-clause-short c = (
  c.encode_version.ensures.short,
  (
    c.encode_set-digests.ensures.short,
    (
      c.encode_content-content.ensures.short,
      (c.encode_certificates-certificates.ensures.short, c.encode_signers-signers.ensures.short),
    ),
  ),
)
