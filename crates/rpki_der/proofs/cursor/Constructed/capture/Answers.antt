use Rattle.std.proofs.Common.{refl, subst, sym, arith}
use Rattle.std.proofs.lemmas.Result.{err_from_is_err_and}
use Rattle.rpki_der.specs.Cursor.{left}
use Rattle.rpki_der.specs.Capture.NotCaptured.{RefusedCapture, Grown, NotKept}
use Rattle.rpki_der.specs.Members.{IsValueList}
use Rattle.rpki_der.proofs.CaptureLaws.{both-parts, as-many}
use Rattle.rpki_der.proofs.KeepLaws.{front-stands}
use Rattle.rpki_der.proofs.cursor.Constructed.capture.Goals as goal

pub returns-in_err-op : goal.returns-in_err-op
returns-in_err-op g c =
    let p = err_from_is_err_and c.from_residual.result c.from_residual.ensures.1 in
    rw (p.1, p.2) (
      refl,
      RefusedCapture _ (record {
        before = c.args.self.now;
        after = c.op.new.arg2;
        all = refl;
        read = record { shown = _; shows = refl; left = _; met = c.in_err-op.ensures; leaves = refl };
        rest = refl;
      }),
    )

pub returns-in_default : goal.returns-in_default
returns-in_default g c = (
  refl,
  Grown _ _ (record {
    before = c.args.self.now;
    after = c.op.new.arg2;
    all = refl;
    read = record { shown = _; shows = refl; left = _; met = c.in_ok-op.ensures; leaves = refl };
    rest = refl;
  }) (omega (arith, c.in_default.ensures, c.len.ensures, c.len-2.ensures)) c.from.ensures,
)

pub returns-in_err-index : goal.returns-in_err-index
returns-in_err-index g c =
    let p = err_from_is_err_and c.from_residual-in_err-index.result c.from_residual-in_err-index.ensures.1 in
    rw p.1 (
      refl,
      NotKept _ _ (left c.split_at.result.0) (left c.split_at.result.1) _ (record {
        before = c.args.self.now;
        after = c.op.new.arg2;
        all = refl;
        read = record { shown = _; shows = refl; left = _; met = c.in_ok-op.ensures; leaves = refl };
        rest = refl;
      })
          (both-parts _ _ _ _ c.split_at.ensures.front c.split_at.ensures.following)
          (as-many _ _ _ _ _ _ c.len.ensures c.len-2.ensures c.in-Some.ensures c.split_at.ensures.following)
          (λ list. c.in_err-index.ensures.refused (subst IsValueList (sym c.rest.ensures) list)) p.2,
    )

pub returns-in-Err : goal.returns-in-Err
returns-in-Err g c = (
  refl,
  NotKept _ _ (left c.split_at.result.0) (left c.split_at.result.1) _ (record {
    before = c.args.self.now;
    after = c.op.new.arg2;
    all = refl;
    read = record { shown = _; shows = refl; left = _; met = c.in_ok-op.ensures; leaves = refl };
    rest = refl;
  })
      (both-parts _ _ _ _ c.split_at.ensures.front c.split_at.ensures.following)
      (as-many _ _ _ _ _ _ c.len.ensures c.len-2.ensures c.in-Some.ensures c.split_at.ensures.following)
      (λ list. c.from-in-Err.ensures) c.from-in-Err-2.ensures,
)

pub returns : goal.returns
returns g c = (
  _,
  _,
  (record {
    before = c.args.self.now;
    after = c.op.new.arg2;
    all = refl;
    read = record { shown = _; shows = refl; left = _; met = c.in_ok-op.ensures; leaves = refl };
    rest = refl;
  }),
  rw (c.of_index.ensures, c.in-Ok.ensures, c.rest-2.ensures)
      (both-parts _ _ _ _ c.split_at.ensures.front c.split_at.ensures.following),
  as-many _ _ _ _ _ _ c.len.ensures c.len-2.ensures c.in-Some.ensures c.split_at.ensures.following,
)

pub keep_part-requires-clause-stands : goal.keep_part-requires-clause-stands
keep_part-requires-clause-stands g c =
    rw c.rest-2.ensures (front-stands _ _ _ _ c.split_at.ensures.front c.split_at.ensures.following)
