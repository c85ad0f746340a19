use Rattle.std.proofs.Common.{◌∙◌, arith}
use Rattle.rpki_resources.proofs.StrippedLaws.{end-more, end-there, end-none}
use Rattle.rpki_resources.proofs.encode.stripped.without_bits.Goals as goal

pub returns-then-number-bit : goal.returns-then-number-bit
returns-then-number-bit c = end-there c.args.bit c.bits.size c.bits.number c.if-number-bit.true ∙ c.bits.invariant

pub bits-preserved : goal.bits-preserved
bits-preserved c = end-more c.args.bit c.bits.size c.bits.number c.bits-test.true c.if-number-bit.false
    ∙ c.bits.invariant

pub returns : goal.returns
returns c = end-none c.args.bit c.bits.size c.bits.number (omega (arith, c.bits-test.false)) ∙ c.bits.invariant
