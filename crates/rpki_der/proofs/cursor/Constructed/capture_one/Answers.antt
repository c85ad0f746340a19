use Rattle.std.proofs.lemmas.Result.{err_from_is_err_and}
use Rattle.rpki_der.proofs.WalkLaws.{capture-memory, error-passed, no-error}
use Rattle.rpki_der.proofs.KeepLaws.{front-stands}
use Rattle.rpki_der.proofs.cursor.Constructed.capture_one.Goals as goal

pub returns-in_err-size-clause-reads : goal.returns-in_err-size-clause-reads
returns-in_err-size-clause-reads g c =
    let p = err_from_is_err_and c.from_residual.result c.from_residual.ensures.1 in
    rw (p.1, p.2, ← c.rest.ensures) c.in_err-size.ensures.refused

pub returns-in_err-size-clause-fault : goal.returns-in_err-size-clause-fault
returns-in_err-size-clause-fault g c =
    let p = err_from_is_err_and c.from_residual.result c.from_residual.ensures.1 in
    rw (p.1, p.2, ← c.rest.ensures) (λ e f. error-passed (c.in_err-size.ensures.fault e f))

pub returns-in_err-bytes-clause-reads : goal.returns-in_err-bytes-clause-reads
returns-in_err-bytes-clause-reads g c =
    let p = err_from_is_err_and c.from_residual-in_err-bytes.result c.from_residual-in_err-bytes.ensures.1 in
    rw (p.1, p.2, ← c.rest.ensures) (capture-memory c.in_ok-size.ensures.accepted)

pub returns-clause-fault : goal.returns-clause-fault
returns-clause-fault g c = rw (← c.rest.ensures) (λ e f. absurd (no-error (c.in_ok-size.ensures.fault e f)))

pub keep_part-requires-clause-stands : goal.keep_part-requires-clause-stands
keep_part-requires-clause-stands g c =
    rw c.rest-2.ensures (front-stands _ _ _ _ c.split_at.ensures.front c.split_at.ensures.following)
