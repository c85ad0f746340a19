use Rattle.std.proofs.Common.{◌+◌, arith}
use Rattle.rpki_c.proofs.ResourceLaws.{ip-kept, ip-too-many, ip-filled}
use Rattle.rpki_c.proofs.ip_blocks.rpki_ip_blocks.Goals as goal

pub overflow_add-all : goal.overflow_add-all
overflow_add-all c =
    let (v, k, few) = ip-kept c.in-Ok.found c.args.octets.now c.in-Ok.ensures.0 in
    record { fits = omega (arith, few, c.count_of-first.ensures, c.count_of.ensures) }

pub returns-then-entries-all : goal.returns-then-entries-all
returns-then-entries-all c =
    ip-too-many c.in-Ok.ensures.0 (c.count_of-first.result + c.count_of.result) c.count_of-first.result
    c.count_of-first.ensures (omega (arith, c.count_of.ensures)) c.if-entries-all.true

pub returns : goal.returns
returns c =
    ip-filled c.in-Ok.ensures.0 (c.count_of-first.result + c.count_of.result) c.count_of-first.result
    c.count_of-first.ensures (omega (arith, c.count_of.ensures)) c.if-entries-all.false c.write_family.ensures
    c.write_family-2.ensures
