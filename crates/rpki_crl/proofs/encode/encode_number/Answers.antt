use Rattle.std.proofs.Common.{refl, arith}
use Rattle.rpki_time.proofs.SerialReadingLaws.{serial-few}
use Rattle.rpki_crl.specs.EncodedCrl.{number_extension}
use Rattle.rpki_x509.specs.TagLaws.{number-few}
use Rattle.rpki_crl.proofs.ListWritingLaws.{are-short, number-short, is-number}
use Rattle.rpki_crl.proofs.encode.encode_number.Goals as goal

pub returns-clause-short : goal.returns-clause-short
returns-clause-short c =
    let n = c.args.number in
    let few = serial-few n in
    c.encode_extension.ensures.short.1 (
      c.encode.ensures.short.1 (number-few n),
      rw c.encode.ensures.encoded (are-short (number_extension n) refl (omega arith) (omega (arith, few))),
    )

pub returns-clause-read_back : goal.returns-clause-read_back
returns-clause-read_back c = number-short c.args.number c.into_array.ensures.below

pub returns-clause-number : goal.returns-clause-number
returns-clause-number c = is-number c.args.number c.into_array.ensures.below
