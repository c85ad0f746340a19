use Rattle.std.proofs.Common.{arith}
use Rattle.rpki_contents.proofs.RoaWritingLaws.{prefix-few, first-fits}
use Rattle.rpki_contents.proofs.roa_encoder.prefixes_len.Goals as goal

pub overflow_add-total : goal.overflow_add-total
overflow_add-total c =
    let fits = first-fits c.each.rest.now c.in-Some.following.now c.in-Some.first.now c.in-Some.ensures.cases.0
    c.each.invariant.fit in
    let few = prefix-few c.in-Some.first.now fits.0 in
    record { fits = omega (arith, few, c.prefix_len-total.ensures, c.each.invariant.below) }
