use Rattle.std.proofs.Common.{true, length, inl, refl}
use Rattle.rpki_der.specs.TagName.{sequence}
use Rattle.rpki_der.proofs.EncodeLaws.{tlv_at_most}
use Rattle.rpki.specs.SignedData.{written_contents, written_signed}
use Rattle.rpkibasic.specs.Run.{written_algorithm}
use Rattle.rpkibasic.proofs.FaultLaws.{too-long}
use Rattle.rpkibasic.proofs.answers.written.Goals as goal

pub returns-then-not-fits : goal.returns-then-not-fits
returns-then-not-fits c =
    let contents = written_contents written_algorithm c.args.signed.now in
    let fits = rw c.encode_ref-encoder.ensures.octets at c.fits.ensures in
    inl (
      refl,
      too-long (length contents) (length (written_signed written_algorithm c.args.signed.now)) c.fits.result
          fits c.if-not-fits.true (c.encode_ref-encoder.ensures.short, c.encode_ref-encoder.ensures.fits tt)
          (tlv_at_most sequence true contents),
    )
