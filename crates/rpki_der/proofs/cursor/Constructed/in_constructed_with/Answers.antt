use Rattle.std.proofs.Common.{refl, subst}
use Rattle.std.proofs.lemmas.Result.{err_from_is_err_and}
use Rattle.rpki_der.specs.Composed.NotInside.{Outside, Refused, More}
use Rattle.rpki_der.proofs.cursor.Constructed.in_constructed_with.Goals as goal

pub returns-in_err-contents : goal.returns-in_err-contents
returns-in_err-contents g c =
    let p = err_from_is_err_and c.from_residual.result c.from_residual.ensures.1 in
    rw p.1 (refl, Outside c.in_err-contents.field-0.0 _ c.in_err-contents.ensures p.2)

pub returns-in_err-found : goal.returns-in_err-found
returns-in_err-found g c =
    let p = err_from_is_err_and c.from_residual-in_err-found.result c.from_residual-in_err-found.ensures.1 in
    rw (p.1, p.2) (
      refl,
      Refused _ _ (record {
        before = c.in_ok-contents.contents;
        after = c.op.new.arg2;
        value = c.in_ok-contents.ensures;
        read = record {
          keep = c.before-within.result;
          held = rw c.rest-2.ensures at c.before-within.ensures;
          shown = _;
          shows = refl;
          rest = _;
          met = c.in_err-found.ensures;
          leaves = refl;
        };
        rest = refl;
      }),
    )

pub returns-in_err-finish : goal.returns-in_err-finish
returns-in_err-finish g c =
    let p = err_from_is_err_and c.from_residual-in_err-finish.result c.from_residual-in_err-finish.ensures.1 in
    rw p.1 (
      refl,
      More c.in_ok-found.found _ _ (record {
        before = c.in_ok-contents.contents;
        after = c.op.new.arg2;
        value = c.in_ok-contents.ensures;
        read = record {
          keep = c.before-within.result;
          held = rw c.rest-2.ensures at c.before-within.ensures;
          shown = _;
          shows = refl;
          rest = _;
          met = c.in_ok-found.ensures;
          leaves = refl;
        };
        rest = refl;
      }) c.in_err-finish.ensures.1 (subst (λ d. g.E.From.from_gives d p.0) c.in_err-finish.ensures.0 p.2),
    )
