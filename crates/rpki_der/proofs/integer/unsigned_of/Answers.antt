use Rattle.std.proofs.Common.{arith, ◌<◌, length, get_or}
use Rattle.std.proofs.lemmas.Bool.Decides.{nat_tests}
use Rattle.std.proofs.lemmas.List.{take_rest}
use Rattle.rpki_der.proofs.IntegerLaws.{octets-fit, following-zero, without-zero}
use Rattle.rpki_der.proofs.integer.unsigned_of.Goals as goal
use Rattle.rpki_der.proofs.integer.unsigned_of.Goals.{then-contents-eq1-via-then-contents-eq1}
use Rattle.rpki_der.proofs.integer.unsigned_of.Goals.{then-contents-eq1-via-else-contents-eq1+then-contents-gt0}

pub invariant_of-result : goal.invariant_of-result
invariant_of-result c =
    let some : 0 < length c.args.contents.now = grind (arith, nat_tests, c.is_empty.ensures, c.if-is_empty.false) in
    let first : 1 < length c.args.contents.now
    → 0 < get_or c.args.contents.now 0 0 = λ long. elim c.then-contents-eq1.branch [
      | then-contents-eq1-via-then-contents-eq1 w ↦ absurd (omega (arith, w.if-contents-eq1.true))
      | then-contents-eq1-via-else-contents-eq1+then-contents-gt0 w ↦ omega (arith, w.if-contents-gt0.true)
    ] in
    (without-zero c.args.contents.now (octets-fit _ c.type_inv.contents) some (omega arith) first).1

pub returns-then-contents-eq1-clause-value : goal.returns-then-contents-eq1-clause-value
returns-then-contents-eq1-clause-value c =
    let some : 0 < length c.args.contents.now = grind (arith, nat_tests, c.is_empty.ensures, c.if-is_empty.false) in
    let first : 1 < length c.args.contents.now
    → 0 < get_or c.args.contents.now 0 0 = λ long. elim c.then-contents-eq1.branch [
      | then-contents-eq1-via-then-contents-eq1 w ↦ absurd (omega (arith, w.if-contents-eq1.true))
      | then-contents-eq1-via-else-contents-eq1+then-contents-gt0 w ↦ omega (arith, w.if-contents-gt0.true)
    ] in
    (without-zero c.args.contents.now (octets-fit _ c.type_inv.contents) some (omega arith) first).0

pub invariant_of-result-2 : goal.invariant_of-result-2
invariant_of-result-2 c =
    let some : 0 < length c.args.contents.now = grind (arith, nat_tests, c.is_empty.ensures, c.if-is_empty.false) in
    rw take_rest (following-zero c.args.contents.now (octets-fit _ c.type_inv.contents)
    (omega (arith, c.if-contents-eq1.false)) (omega arith) (omega arith)).1

pub returns-clause-value : goal.returns-clause-value
returns-clause-value c =
    let some : 0 < length c.args.contents.now = grind (arith, nat_tests, c.is_empty.ensures, c.if-is_empty.false) in
    rw take_rest (following-zero c.args.contents.now (octets-fit _ c.type_inv.contents)
    (omega (arith, c.if-contents-eq1.false)) (omega arith) (omega arith)).0
