use Rattle.std.proofs.Common.{◌≡◌, length, sym, ◌∙◌}
use Rattle.std.proofs.lemmas.List.{nil_from_length}
use Rattle.std.proofs.lemmas.Bool.{eqb-true}
use Rattle.rpki_der.proofs.NestedFaultLaws.{fault-not-empty}
use Rattle.rpki_der.proofs.cursor.Constructed.skip_one.Goals as goal

pub returns-then-is_empty-clause-fault : goal.returns-then-is_empty-clause-fault
returns-then-is_empty-clause-fault c = λ e f.
    let none : length c.rest.result.now ≡ 0 = eqb-true _ _ (sym c.is_empty.ensures ∙ c.if-is_empty.true) in
    absurd (fault-not-empty f (sym c.rest.ensures ∙ nil_from_length c.rest.result.now none))
