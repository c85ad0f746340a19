use Rattle.std.proofs.Common.{◌≡◌, ◌∙◌, ap, codes, bytes_eq, unwrap_or, []}
use Rattle.std.specs.Prelude.{Some, None}
use Rattle.clap.specs.Words.{found_of, first_of}
use Rattle.clap.proofs.WalkLemmas.{first_value-rows}
use Rattle.rpkivalid.specs.RequestView.{rows_in}
use Rattle.rpkivalid.proofs.request.is_given.Goals as goal

pub returns-in-Some : goal.returns-in-Some
returns-in-Some c =
    let first : Some c.in-Some.value.now ≡ first_of c.args.name.now (rows_in c.args.matches.now) =
    (rw c.in-Some.is at c.get_str.ensures) ∙ first_value-rows (found_of c.args.matches.now) c.args.name.now in
    c.eq.ensures ∙ ap (λ o. bytes_eq (unwrap_or o []) (codes "true")) first

pub returns-in-None : goal.returns-in-None
returns-in-None c =
    let first : None ≡ first_of c.args.name.now (rows_in c.args.matches.now) =
    (rw c.in-None.is at c.get_str.ensures) ∙ first_value-rows (found_of c.args.matches.now) c.args.name.now in
    ap (λ o. bytes_eq (unwrap_or o []) (codes "true")) first
