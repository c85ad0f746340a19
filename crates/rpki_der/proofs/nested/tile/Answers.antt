use Rattle.std.proofs.Common.{length, ◌++◌, ◌∙◌, append_assoc, ap, arith, sym, List, ℕ}
use Rattle.std.proofs.lemmas.Bool.{iff_false}
use Rattle.rpki_der.proofs.NestedLaws.{any-shorter, any-fault, headed-append, headed-one}
use Rattle.rpki_der.proofs.nested.tile.Goals as goal

pub values-smaller : goal.values-smaller
values-smaller c = omega (arith, any-shorter _ _ _ c.in-Ok.ensures)

pub values-preserved : goal.values-preserved
values-preserved c =
    let (front, parts, headed) = c.values.invariant in
    let a = c.in-Ok.ensures in (
      front ++ a.spells.front,
      parts ∙ ap (λ (x : List ℕ). front ++ x) a.spells.parts ∙ sym (append_assoc front a.spells.front _),
      headed-append front a.spells.front headed (headed-one _ _ a.spells.spelled),
    )

pub returns-in-Err-clause-err : goal.returns-in-Err-clause-err
returns-in-Err-clause-err c =
    let (front, parts, headed) = c.values.invariant in
    let h = c.in-Err.ensures in
    let some = iff_false c.is_empty.ensures c.values-test.true in
    record {
      front = front;
      rest = _;
      parts = parts;
      headed = headed;
      size = sym (c.len.ensures ∙ ap length h.unchanged);
      fault = any-fault _ _ some h.kind;
    }
