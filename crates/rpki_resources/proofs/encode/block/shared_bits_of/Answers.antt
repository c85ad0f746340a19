use Rattle.std.proofs.Common.{◌-◌, arith, sym}
use Rattle.rpki_resources.specs.Address.{width}
use Rattle.rpki_resources.specs.Encoded.{bits_at}
use Rattle.rpki_resources.proofs.AddressLaws.{width-most}
use Rattle.rpki_resources.proofs.PrefixLaws.{few-missing}
use Rattle.rpki_resources.proofs.StrippedLaws.{shared-none, are-shared, missing-shared}
use Rattle.rpki_resources.proofs.encode.block.shared_bits_of.Goals as goal

pub returns-then-not-is_prefix-clause-bits : goal.returns-then-not-is_prefix-clause-bits
returns-then-not-is_prefix-clause-bits c =
    sym (shared-none (width c.args.family) c.args.block.low c.args.block.high
    (λ p. let f = c.if-not-is_prefix.ensures.1 p in let none : ⊥ = cc in none))

pub without_last-requires : goal.without_last-requires
without_last-requires c =
    let h = c.missing_bits-missing.ensures in
    let w = width c.args.family in
    let few = few-missing w c.missing_bits-missing.result h.0 c.args.block.high c.requires.1 h.2 in
    omega (arith, few, width-most c.args.family)

pub overflow_sub-result : goal.overflow_sub-result
overflow_sub-result c =
    let h = c.missing_bits-missing.ensures in
    let w = width c.args.family in
    rw c.width.ensures (few-missing w c.missing_bits-missing.result h.0 c.args.block.high c.requires.1 h.2)

pub returns-clause-bits : goal.returns-clause-bits
returns-clause-bits c =
    let w = width c.args.family in
    let missing = c.missing_bits-missing.result in
    let is = missing-shared w missing c.args.block.low c.args.block.high c.without_last.result c.requires.1
    c.missing_bits-missing.ensures c.without_last.ensures in
    rw c.width.ensures is

pub returns-clause-legal : goal.returns-clause-legal
returns-clause-legal c =
    let w = width c.args.family in
    let missing = c.missing_bits-missing.result in
    let is = missing-shared w missing c.args.block.low c.args.block.high c.without_last.result c.requires.1
    c.missing_bits-missing.ensures c.without_last.ensures in
    rw c.width.ensures (are-shared w c.args.block.low c.args.block.high
    (bits_at c.without_last.result (w - missing)) c.requires.1 (sym is)).legal
