use Rattle.std.proofs.Common.{◌<◌, arith}
use Rattle.rpki_resources.proofs.PrefixLaws.{counting-start, one-counted, count-few, counting-end}
use Rattle.rpki_resources.proofs.prefix.missing_bits.Goals as goal

pub bits-init : goal.bits-init
bits-init c = counting-start c.args.low c.args.high c.requires

pub overflow_add-count : goal.overflow_add-count
overflow_add-count c =
    let few : c.bits.count < 128 = count-few c.args.low c.args.high c.bits.first c.bits.last c.bits.count (omega arith)
    c.bits-test.true c.bits.invariant in
    record { fits = omega (arith, few) }

pub bits-preserved : goal.bits-preserved
bits-preserved c = one-counted c.args.low c.args.high c.bits.first c.bits.last c.bits.count c.bits-test.true
    c.bits.invariant

pub returns : goal.returns
returns c = counting-end c.args.low c.args.high c.bits.first c.bits.last c.bits.count (omega (arith, c.bits-test.false))
    c.bits.invariant
