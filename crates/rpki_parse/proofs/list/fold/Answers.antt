use Rattle.std.proofs.Common.{◌<◌, length, arith}
use Rattle.std.proofs.lemmas.Bool.{iff_false}
use Rattle.rpki_der.specs.Cursor.{left}
use Rattle.rpki_parse.proofs.FoldLaws.{fold_begins, fold_kept, fold_ended, fold_failed}
use Rattle.rpki_parse.proofs.list.fold.Goals as goal

pub each-init : goal.each-init
each-init g c = record { same = fold_begins (g.S.Step.next_at c.args.step.now) c.args.first _; few = omega arith }

pub returns-in-Err : goal.returns-in-Err
returns-in-Err g c =
    fold_failed (g.S.Step.next_at c.args.step.now) _ c.each.state c.each.count _ _
    (iff_false c.is_empty.ensures c.each-test.true) c.in-Err.ensures.reads c.each.invariant.same

pub overflow_add-count : goal.overflow_add-count
unfolding left
overflow_add-count g c =
    let less : length (left c.next.new.cons) < length (left c.each.rest) = c.in-Ok.ensures.moves in
    record { fits = omega (arith, less, c.each.invariant.few, c.ranges.contents.0) }

pub each-preserved : goal.each-preserved
each-preserved g c =
    let less : length (left c.next.new.cons) < length (left c.each.rest) = c.in-Ok.ensures.moves in
    record {
      same = fold_kept (g.S.Step.next_at c.args.step.now) _ c.each.state c.in-Ok.next c.each.count _ _
          (iff_false c.is_empty.ensures c.each-test.true) c.in-Ok.ensures.reads less c.each.invariant.same;
      few = omega (arith, less, c.each.invariant.few);
    }

pub returns : goal.returns
returns g c =
    fold_ended (g.S.Step.next_at c.args.step.now) _ c.each.state c.each.count _ (c.is_empty.ensures.0 c.each-test.false)
    c.each.invariant.same
