use Rattle.std.proofs.Common.{arith}
use Rattle.rpki_attributes.proofs.AttributesOrderLaws.{time-size}
use Rattle.rpki_attributes.proofs.encode.encode_time.Goals as goal

pub encode_attribute-requires-clause-value : goal.encode_attribute-requires-clause-value
encode_attribute-requires-clause-value c =
    let size = time-size c.args.time in
    (c.encode_varied.ensures.fits.0, rw c.encode_varied.ensures.encoded (omega (arith, size.1)))
