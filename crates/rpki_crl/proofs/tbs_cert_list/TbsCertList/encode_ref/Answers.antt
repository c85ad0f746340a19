use Rattle.std.proofs.Common.{◌<◌, ◌^◌, ap, sym, subst, true, length}
use Rattle.rpki_der.specs.Prelude.{sequence, tlv}
use Rattle.rpki.specs.Prelude.{SpellsNameOctets}
use Rattle.rpki_crl.specs.Crl.{list_of}
use Rattle.rpki_x509.proofs.WrittenLaws.{appended}
use Rattle.rpki_crl.proofs.ListReadLaws.{behind-short, list-read}
use Rattle.rpki_crl.proofs.tbs_cert_list.TbsCertList.encode_ref.Goals as goal

pub returns-clause-octets : goal.returns-clause-octets
returns-clause-octets c =
    rw c.new.ensures (ap (tlv sequence true) (appended c.encode_version-version.ensures.octets
    (appended c.x509_encode-algorithm.ensures.octets (appended c.encode_ref-issuer.ensures.octets
    c.encode_behind-behind.ensures.octets))))

pub returns-clause-short : goal.returns-clause-short
returns-clause-short c =
    let inner = appended c.encode_version-version.ensures.octets (appended c.x509_encode-algorithm.ensures.octets
    (appended c.encode_ref-issuer.ensures.octets c.encode_behind-behind.ensures.octets)) in
    rw c.new.ensures (
      λ h. subst (λ w. length w < 2 ^ 32) inner h.1,
      λ short. (
        (
          c.encode_version-version.ensures.short,
          (
            (c.x509_encode-algorithm.ensures.short tt),
            (
              (1, c.encode_ref-issuer.ensures.one),
              c.encode_behind-behind.ensures.short (behind-short (list_of c.args.self.now) short),
            ),
          ),
        ),
        subst (λ w. length w < 2 ^ 32) (sym inner) short,
      ),
    )

pub returns-clause-read_back : goal.returns-clause-read_back
returns-clause-read_back c = λ known short.
    let x = list_of c.args.self.now in
    let name = c.encode_ref-issuer.ensures in
    list-read x (subst (λ w. SpellsNameOctets x.issuer w) name.octets name.read_back)
    (c.encode_behind-behind.ensures.read_back known (behind-short x short)) short
