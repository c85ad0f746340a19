use Rattle.std.proofs.Common.{List, ℕ, sym, subst}
use Rattle.rpki.specs.ExtensionValue.{AreShort}
use Rattle.rpki_issue.specs.RowNames.{row_parts}
use Rattle.rpki_issue.specs.declared.row.Row.TheVariants.{CertificatePolicies}
use Rattle.rpki_issue.proofs.RowsLaws.{policies-legal}
use Rattle.rpki_issue.proofs.listed.push_policies.Goals as goal

pub push-requires-clause-all : goal.push-requires-clause-all
push-requires-clause-all c =
    subst (λ (w : List ℕ). AreShort (row_parts CertificatePolicies w)) (sym c.encode_policies-content.ensures.octets)
    (policies-legal _ c.requires).short
