use Rattle.std.proofs.Common.{List, ℕ, sym, subst}
use Rattle.rpki.specs.ExtensionValue.{AreShort}
use Rattle.rpki_issue.specs.RowNames.{row_parts}
use Rattle.rpki_issue.specs.declared.row.Row.TheVariants.{BasicConstraints}
use Rattle.rpki_issue.proofs.RowsLaws.{constraints-legal}
use Rattle.rpki_issue.proofs.csr_written.push_basic.Goals as goal

pub push-requires-clause-all : goal.push-requires-clause-all
push-requires-clause-all c =
    subst (λ (w : List ℕ). AreShort (row_parts BasicConstraints w)) (sym c.encode_constraints.ensures.octets)
    (constraints-legal).short
