use Rattle.std.proofs.Common.{false, refl, arith}
use Rattle.rpki_der.proofs.EncodeLaws.{tlv_at_most}
use Rattle.rpki_x509.specs.Authority.{identifier_tag}
use Rattle.rpki_crl.specs.EncodedCrl.{authority_extension}
use Rattle.rpki_crl.proofs.ListWritingLaws.{are-short, authority-few, authority-short, is-authority}
use Rattle.rpki_crl.proofs.encode.encode_authority.Goals as goal

pub returns-clause-short : goal.returns-clause-short
returns-clause-short c =
    let k = c.args.identifier in
    let size = c.as_slice.ensures.size in
    c.encode_extension.ensures.short.1 (
      rw c.new-content.ensures (
        c.encode_as.ensures.short.1 (omega (arith, size)),
        rw (c.encode_as.ensures.encoded, c.new.ensures) (omega (arith, size, tlv_at_most identifier_tag false k)),
      ),
      rw (c.new-content.ensures, c.encode_as.ensures.encoded, c.new.ensures)
          (are-short (authority_extension k) refl (omega arith) (authority-few k size)),
    )

pub returns-clause-read_back : goal.returns-clause-read_back
returns-clause-read_back c = authority-short c.args.identifier c.as_slice.ensures.size

pub returns-clause-authority : goal.returns-clause-authority
returns-clause-authority c = is-authority c.args.identifier c.as_slice.ensures.size
