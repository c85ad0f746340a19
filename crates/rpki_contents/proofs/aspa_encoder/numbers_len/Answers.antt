use Rattle.std.proofs.Common.{arith}
use Rattle.rpki_contents.proofs.AspaWritingLaws.{number-few}
use Rattle.rpki_contents.proofs.aspa_encoder.numbers_len.Goals as goal

pub overflow_add-total : goal.overflow_add-total
overflow_add-total c =
    let few = number-few c.in-Some.first.now in
    record { fits = omega (arith, few, c.number_len-total.ensures, c.each.invariant.below) }
