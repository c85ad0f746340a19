use Rattle.std.proofs.Common.{refl, subst, arith}
use Rattle.std.proofs.lemmas.Bool.{iff_false}
use Rattle.std.proofs.lemmas.Result.{err_from_is_err_and}
use Rattle.rpki_der.specs.Each.EachRead.{NoneRead}
use Rattle.rpki_der.specs.Each.NotEach.{RefusedNext, Unmoved, NotKept}
use Rattle.rpki_der.proofs.EachLaws.{next-read}
use Rattle.rpki_der.proofs.cursor.Constructed.take_each_with.Goals as goal

pub values-init : goal.values-init
values-init g c = (rw c.new-values.ensures.items NoneRead, c.requires.held)

pub returns-in_err-value : goal.returns-in_err-value
returns-in_err-value g c =
    let p = err_from_is_err_and c.from_residual.result c.from_residual.ensures.1 in
    rw (p.1, p.2) (
      refl,
      RefusedNext _ _ _ c.values.invariant.0 (iff_false c.is_empty.ensures c.values-test.true) (record {
        before = c.values.rest;
        after = c.op.new.arg2;
        all = refl;
        read = record {
          keep = c.args.keep;
          held = c.values.invariant.1;
          shown = _;
          shows = refl;
          rest = _;
          met =
              c.in_err-value.ensures;
          leaves = refl;
        };
        rest = refl;
      }),
    )

pub returns-then-len-before : goal.returns-then-len-before
returns-then-len-before g c = (
  refl,
  Unmoved _ _ c.in_ok-value.value _ c.values.invariant.0 (iff_false c.is_empty.ensures c.values-test.true) (record {
    before = c.values.rest;
    after = c.op.new.arg2;
    all = refl;
    read = record {
      keep = c.args.keep;
      held = c.values.invariant.1;
      shown = _;
      shows = refl;
      rest = _;
      met =
          c.in_ok-value.ensures;
      leaves = refl;
    };
    rest = refl;
  }) (omega (arith, c.if-len-before.true, c.len-before.ensures, c.len.ensures)) c.from.ensures,
)

pub returns-in-Err : goal.returns-in-Err
returns-in-Err g c = (
  refl,
  NotKept _ _ c.in_ok-value.value _ c.values.invariant.0 (iff_false c.is_empty.ensures c.values-test.true) (record {
    before = c.values.rest;
    after = c.op.new.arg2;
    all = refl;
    read = record {
      keep = c.args.keep;
      held = c.values.invariant.1;
      shown = _;
      shows = refl;
      rest = _;
      met =
          c.in_ok-value.ensures;
      leaves = refl;
    };
    rest = refl;
  }) (subst (λ d. g.E.From.from_gives d c.from-in-Err-2.result) c.from-in-Err.ensures c.from-in-Err-2.ensures),
)

pub values-preserved : goal.values-preserved
values-preserved g c =
    let parts = c.requires.front c.values.rest _ c.in_ok-value.value
    (record {
      keep = c.args.keep;
      held = c.values.invariant.1;
      shown = _;
      shows = refl;
      rest = _;
      met =
          c.in_ok-value.ensures;
      leaves = refl;
    }) in (
      rw c.in_default.ensures.items (next-read _ _ _ _ _ c.in_ok-value.value c.values.invariant.0
          (iff_false c.is_empty.ensures c.values-test.true) (record {
            before = c.values.rest;
            after = c.op.new.arg2;
            all = refl;
            read = record {
              keep = c.args.keep;
              held = c.values.invariant.1;
              shown = _;
              shows = refl;
              rest = _;
              met =
                  c.in_ok-value.ensures;
              leaves = refl;
            };
            rest = refl;
          }) (omega (arith, c.if-len-before.false, c.len-before.ensures, c.len.ensures))),
      g.met.K.Keep.rest_held c.args.keep parts.0 _ (subst (g.K.Keep.holds c.args.keep) parts.1 c.values.invariant.1),
    )
