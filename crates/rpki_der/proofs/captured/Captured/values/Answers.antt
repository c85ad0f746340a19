use Rattle.std.proofs.Common.{◌∙◌, ℕ, List, ap, subst}
use Rattle.std.specs.Prelude.{count_by}
use Rattle.rpki_der.specs.Members.{AreValues}
use Rattle.rpki_der.specs.Index.{Entry}
use Rattle.rpki_der.proofs.MembersLaws.{one-list}
use Rattle.rpki_der.proofs.IndexLaws.{stands_alone, index-values}
use Rattle.rpki_der.proofs.captured.Captured.values.Goals as goal

pub returns-clause-count : goal.returns-clause-count
returns-clause-count c =
    let number = c.outer_count.ensures ∙ ap (λ (x : List Entry). count_by stands_alone x) c.deref.ensures.value in
    subst (λ (x : List ℕ). AreValues c.outer_count.result x) c.self.view_is
    (index-values c.outer_count.result c.self.invariant number)

pub returns-clause-members : goal.returns-clause-members
returns-clause-members c = λ j k v w. one-list v w
