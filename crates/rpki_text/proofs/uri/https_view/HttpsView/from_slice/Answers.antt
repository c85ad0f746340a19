use Rattle.std.proofs.lemmas.Result.{err_from_is_err_and}
use Rattle.rpki_text.proofs.MemoryLaws.{https-memory}
use Rattle.rpki_text.proofs.uri.https_view.HttpsView.from_slice.Goals as goal

pub returns-in_err-path_start-clause-memory : goal.returns-in_err-path_start-clause-memory
returns-in_err-path_start-clause-memory c =
    let p = err_from_is_err_and c.from_residual.result c.from_residual.ensures.1 in
    rw (p.1, p.2) (https-memory c.args.slice.now _ c.in_err-path_start.ensures.err)
