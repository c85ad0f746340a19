use Rattle.std.proofs.Common.{arith, length-append}
use Rattle.rpki_der.proofs.EncodeLaws.{count_at_most}
use Rattle.rpki_der.proofs.encode.lists.Tuple2Values.count.Goals as goal

pub overflow_add-result : goal.overflow_add-result
overflow_add-result g c =
    let a = count_at_most _ _ c.count.ensures in
    let b = count_at_most _ _ c.count-2.ensures in
    let whole = simp length-append at c.requires.1 in
    omega (arith, a, b, whole)
