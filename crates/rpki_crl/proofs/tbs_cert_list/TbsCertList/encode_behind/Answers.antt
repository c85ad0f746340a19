use Rattle.rpki_crl.specs.Crl.{list_of}
use Rattle.rpki_x509.proofs.WrittenLaws.{appended}
use Rattle.rpki_crl.proofs.ListReadLaws.{revoked-short, behind-read}
use Rattle.rpki_crl.proofs.tbs_cert_list.TbsCertList.encode_behind.Goals as goal

pub returns-clause-octets : goal.returns-clause-octets
returns-clause-octets c =
    appended c.encode_varied-issued.ensures.encoded (appended c.encode_varied-next.ensures.encoded
    (appended c.encode_entries-entries.ensures.octets c.encode-extensions.ensures.octets))

pub returns-clause-short : goal.returns-clause-short
returns-clause-short c = λ short. (
  c.encode_varied-issued.ensures.fits.0,
  (
    c.encode_varied-next.ensures.fits.0,
    (
      c.encode_entries-entries.ensures.short (revoked-short (list_of c.args.self.now) short),
      c.encode-extensions.ensures.fits.0,
    ),
  ),
)

pub returns-clause-read_back : goal.returns-clause-read_back
returns-clause-read_back c = behind-read (list_of c.args.self.now) c.encode_varied-issued.ensures.year
    c.encode_varied-next.ensures.year c.encode-extensions.ensures.read_back
