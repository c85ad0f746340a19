use Rattle.std.proofs.Common.{rules, refl}
use Rattle.std.proofs.lemmas.Result.{err_from_is_err_and}
use Rattle.rpki_examples.proofs.BesideLaws.{not-joined}
use Rattle.rpki_examples.proofs.uris.beside.Goals as goal

pub returns-in_err-join : goal.returns-in_err-join
returns-in_err-join c =
    let p = err_from_is_err_and c.from_residual-in_err-join.result c.from_residual-in_err-join.ensures.1 in
    rw (p.1, p.2) (not-joined c.args.manifest.now c.args.name.now _ _ _ (search rules) refl c.in_err-join.ensures.err)
