use Rattle.std.proofs.lemmas.Result.{err_from_is_err_and}
use Rattle.rpki_text.proofs.MemoryLaws.{rsync-memory}
use Rattle.rpki_text.proofs.uri.rsync_view.RsyncView.from_slice.Goals as goal

pub returns-in_err-places-clause-memory : goal.returns-in_err-places-clause-memory
returns-in_err-places-clause-memory c =
    let p = err_from_is_err_and c.from_residual.result c.from_residual.ensures.1 in
    rw (p.1, p.2) (rsync-memory c.args.slice.now _ c.in_err-places.ensures.err)
