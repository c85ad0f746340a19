use Rattle.std.proofs.Common.{arith}
use Rattle.std.proofs.lemmas.Str.Pattern.{split_parts}
use Rattle.rpki_resources.proofs.AddressTextLaws.{no-range, no-block-alone}
use Rattle.rpki_resources.proofs.ip_read.IpBlockFromStr.from_str.Goals as goal

pub returns-in-None-range_of : goal.returns-in-None-range_of
returns-in-None-range_of c =
    let parts = rw c.in-Some.is at (split_parts 45 c.args.s.now c.split_once.result c.split_once.ensures.cases
    (omega arith)) in
    no-range c.args.s.now c.in-Some.low.now c.in-Some.high.now parts.0 parts.1 c.in-None-range_of.ensures.none

pub returns-in-None-prefix_or_address : goal.returns-in-None-prefix_or_address
returns-in-None-prefix_or_address c =
    let plain = rw c.in-None.is at (split_parts 45 c.args.s.now c.split_once.result c.split_once.ensures.cases
    (omega arith)) in
    no-block-alone c.args.s.now plain c.in-None-prefix_or_address.ensures.no_prefix
    c.in-None-prefix_or_address.ensures.no_address
