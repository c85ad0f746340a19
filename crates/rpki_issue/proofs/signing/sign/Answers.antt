use Rattle.std.proofs.Common.{◌≡◌, true, refl, sym, subst, arith}
use Rattle.rpki_der.specs.Prelude.{sequence}
use Rattle.rpki_der.proofs.EncodeLaws.{tlv_at_most}
use Rattle.rpki.specs.SignedData.{IsShortSigned, written_contents}
use Rattle.rpki_issue.specs.Signing.{written_algorithm, signed_parts}
use Rattle.rpki_issue.proofs.signing.sign.Goals as goal

pub returns-then-not-fits-clause-err : goal.returns-then-not-fits-clause-err
returns-then-not-fits-clause-err g c = λ short.
    let same : c.new-data.result ≡ signed_parts c.args.octets c.args.signature =
    rw (c.new-data.ensures, c.new-signature.ensures, c.default.ensures) refl in
    let few = subst (λ d. IsShortSigned written_algorithm d) (sym same) short in
    let e = c.encode_ref-encoder.ensures in
    let contents = written_contents written_algorithm c.new-data.result in
    let fits = c.fits.ensures.1 (
      e.fits tt few,
      rw e.octets (omega (arith, few, tlv_at_most sequence true contents)),
    ) in
    let none : ⊥ = cc in
    none
