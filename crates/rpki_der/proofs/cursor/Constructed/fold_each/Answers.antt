use Rattle.std.proofs.Common.{refl, arith}
use Rattle.std.proofs.lemmas.Bool.{iff_false}
use Rattle.std.proofs.lemmas.Result.{err_from_is_err_and}
use Rattle.rpki_der.specs.Fold.Folded.{NoneFolded}
use Rattle.rpki_der.specs.Fold.NotFolded.{RefusedFold, UnmovedFold}
use Rattle.rpki_der.proofs.FoldLaws.{next-folded}
use Rattle.rpki_der.proofs.cursor.Constructed.fold_each.Goals as goal

pub values-init : goal.values-init
values-init g c = NoneFolded

pub returns-in_err-next : goal.returns-in_err-next
returns-in_err-next g c =
    let p = err_from_is_err_and c.from_residual.result c.from_residual.ensures.1 in
    rw (p.1, p.2) (
      refl,
      RefusedFold _ _ _ c.values.invariant (iff_false c.is_empty.ensures c.values-test.true) (record {
        before = c.values.rest;
        after = c.op.new.arg2;
        all = refl;
        read = record { shown = _; shows = refl; left = _; met = c.in_err-next.ensures; leaves = refl };
        rest = refl;
      }),
    )

pub returns-then-len-before : goal.returns-then-len-before
returns-then-len-before g c = (
  refl,
  UnmovedFold _ c.in_ok-next.next _ _ c.values.invariant (iff_false c.is_empty.ensures c.values-test.true) (record {
    before = c.values.rest;
    after = c.op.new.arg2;
    all = refl;
    read = record { shown = _; shows = refl; left = _; met = c.in_ok-next.ensures; leaves = refl };
    rest = refl;
  }) (omega (arith, c.if-len-before.true, c.len-before.ensures, c.len.ensures)) c.from.ensures,
)

pub values-preserved : goal.values-preserved
values-preserved g c =
    next-folded _ _ _ c.in_ok-next.next _ _ _ c.values.invariant (iff_false c.is_empty.ensures c.values-test.true)
    (record {
      before = c.values.rest;
      after = c.op.new.arg2;
      all = refl;
      read = record { shown = _; shows = refl; left = _; met = c.in_ok-next.ensures; leaves = refl };
      rest = refl;
    })
    (omega (arith, c.if-len-before.false, c.len-before.ensures, c.len.ensures))
