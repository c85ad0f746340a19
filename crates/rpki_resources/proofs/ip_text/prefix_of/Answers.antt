use Rattle.std.proofs.Common.{◌≤◌, arith}
use Rattle.rpki_resources.specs.Address.{width}
use Rattle.rpki_resources.proofs.PrefixLaws.{few-missing, shared-bits}
use Rattle.rpki_resources.proofs.ip_text.prefix_of.Goals as goal

pub overflow_sub-len : goal.overflow_sub-len
overflow_sub-len c =
    let h = c.missing_bits.ensures in
    let few : c.missing_bits.result ≤ width c.args.family =
    few-missing (width c.args.family) c.missing_bits.result h.0 c.args.high c.requires.fits h.2 in
    rw c.width.ensures few

pub returns : goal.returns
returns c =
    let h = c.missing_bits.ensures in
    let few : c.missing_bits.result ≤ width c.args.family =
    few-missing (width c.args.family) c.missing_bits.result h.0 c.args.high c.requires.fits h.2 in
    rw c.width.ensures
    (record {
      addr = c.address_of.ensures;
      len = omega arith;
      shared =
          shared-bits (width c.args.family) c.missing_bits.result c.args.low c.args.high few h;
    })
