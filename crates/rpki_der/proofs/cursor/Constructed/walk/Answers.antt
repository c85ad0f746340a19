use Rattle.std.proofs.Common.{◌≡◌, ◌≢◌, [], length, ap, sym, ◌∙◌}
use Rattle.std.proofs.lemmas.List.{nil_from_length}
use Rattle.std.proofs.lemmas.Bool.{eqb-true, eqb-false}
use Rattle.std.proofs.lemmas.Result.{err_from_is_err_and}
use Rattle.rpki_der.proofs.NestedFaultLaws.{fault-not-empty}
use Rattle.rpki_der.proofs.WalkLaws.{any-accepted, any-refused, some-left}
use Rattle.rpki_der.proofs.cursor.Constructed.walk.Goals as goal

pub returns-then-is_empty-clause-fault : goal.returns-then-is_empty-clause-fault
returns-then-is_empty-clause-fault c = λ e f.
    let none : length c.rest-octets.result.now ≡ 0 = eqb-true _ _ (sym c.is_empty.ensures ∙ c.if-is_empty.true) in
    absurd (fault-not-empty f (sym c.rest-octets.ensures ∙ nil_from_length c.rest-octets.result.now none))

pub returns-in_err-size-clause-reads : goal.returns-in_err-size-clause-reads
returns-in_err-size-clause-reads c =
    let some : c.rest-octets.result.now ≢ [] = λ z. eqb-false _ _ (sym c.is_empty.ensures ∙ c.if-is_empty.false)
    (ap length z) in
    let p = err_from_is_err_and c.from_residual.result c.from_residual.ensures.1 in
    rw (p.1, p.2, ← c.rest-octets.ensures) (some, any-refused some c.in_err-size.ensures.refused)

pub returns-clause-reads : goal.returns-clause-reads
returns-clause-reads c = rw (c.split_at.ensures.following, ← c.rest-octets.ensures)
    (some-left c.in_ok-size.ensures.accepted, any-accepted c.in_ok-size.ensures.accepted)
