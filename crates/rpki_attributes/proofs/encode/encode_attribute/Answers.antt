use Rattle.std.proofs.Common.{arith}
use Rattle.rpki_attributes.proofs.AttributesWritingLaws.{attribute-few}
use Rattle.rpki_attributes.proofs.encode.encode_attribute.Goals as goal

pub returns-clause-short : goal.returns-clause-short
returns-clause-short g c =
    let value = g.V.Values.encoded c.args.value in
    let few = attribute-few (c.args.id.0.now, value) c.requires.id in
    rw (c.new-2.ensures, c.new.ensures) (
      (
        c.encode.ensures.short.1 (omega (arith, c.requires.id)),
        (c.requires.value.0, omega (arith, c.requires.value.1)),
      ),
      rw c.encode.ensures.encoded (omega (arith, few.0, c.requires.value.1)),
    )
