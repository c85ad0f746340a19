use Rattle.std.proofs.Common.{◌<◌, ◌^◌, true, length, ap, sym, subst}
use Rattle.rpki_der.specs.Prelude.{sequence, tlv}
use Rattle.rpki_crl.specs.Crl.{extensions_of, extensions_tag}
use Rattle.rpki_x509.proofs.WrittenLaws.{appended}
use Rattle.rpki_crl.proofs.ListWritingLaws.{are-two-few, extensions-back}
use Rattle.rpki_crl.proofs.crl_extensions.CrlExtensions.encode.Goals as goal

pub returns-clause-octets : goal.returns-clause-octets
returns-clause-octets c =
    rw (c.new-2.ensures, c.new.ensures) (ap (λ w. tlv extensions_tag true (tlv sequence true w))
    (appended c.encode_authority-authority.ensures.octets c.encode_number.ensures.octets))

pub returns-clause-fits : goal.returns-clause-fits
returns-clause-fits c =
    let one = c.encode_authority-authority.ensures in
    let two = c.encode_number.ensures in
    let few = are-two-few (extensions_of c.args.self) one.read_back two.read_back in
    let inner = sym (appended one.octets two.octets) in
    rw (c.new-2.ensures, c.new.ensures) (
      (
        ((one.short, two.short), subst (λ w. length w < 2 ^ 32) inner few.contents),
        subst (λ w. length (tlv sequence true w) < 2 ^ 32) inner few.inside,
      ),
      few.all,
    )

pub returns-clause-read_back : goal.returns-clause-read_back
returns-clause-read_back c =
    let one = c.encode_authority-authority.ensures in
    let two = c.encode_number.ensures in
    extensions-back (extensions_of c.args.self) one.read_back two.read_back one.authority two.number
