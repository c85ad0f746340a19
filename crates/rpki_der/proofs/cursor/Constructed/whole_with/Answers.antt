use Rattle.std.proofs.Common.{refl, subst}
use Rattle.std.proofs.lemmas.Result.{err_from_is_err_and}
use Rattle.rpki_der.specs.Composed.NotWhole.{RefusedAll, Left}
use Rattle.rpki_der.proofs.cursor.Constructed.whole_with.Goals as goal

pub returns-in_err-found : goal.returns-in_err-found
returns-in_err-found g c =
    let p = err_from_is_err_and c.from_residual.result c.from_residual.ensures.1 in
    rw (p.1, p.2) (RefusedAll _ (record {
      before = c.args.self;
      after = c.op.new.arg2;
      all = refl;
      read = record {
        keep = c.args.keep;
        held = c.requires.held;
        shown = _;
        shows = refl;
        rest = _;
        met =
            c.in_err-found.ensures;
        leaves = refl;
      };
      rest = refl;
    }))

pub returns-in_err-finish : goal.returns-in_err-finish
returns-in_err-finish g c =
    let p = err_from_is_err_and c.from_residual-in_err-finish.result c.from_residual-in_err-finish.ensures.1 in
    rw p.1 (Left c.in_ok-found.found _ (record {
      before = c.args.self;
      after = c.op.new.arg2;
      all = refl;
      read = record {
        keep = c.args.keep;
        held = c.requires.held;
        shown = _;
        shows = refl;
        rest = _;
        met =
            c.in_ok-found.ensures;
        leaves = refl;
      };
      rest = refl;
    }) c.in_err-finish.ensures.1 (subst (λ d. g.E.From.from_gives d p.0) c.in_err-finish.ensures.0 p.2))

pub returns : goal.returns
returns g c = record {
  before = c.args.self;
  after = c.op.new.arg2;
  all = refl;
  read = record {
    keep = c.args.keep;
    held = c.requires.held;
    shown = _;
    shows = refl;
    rest = _;
    met =
        c.in_ok-found.ensures;
    leaves = refl;
  };
  rest = c.in_ok-finish.ensures;
}
