use Rattle.std.proofs.Common.{List, ℕ, sym, subst}
use Rattle.rpki.specs.ExtensionValue.{AreShort}
use Rattle.rpki_issue.specs.RowNames.{row_parts}
use Rattle.rpki_issue.specs.declared.row.Row.TheVariants.{KeyUsage}
use Rattle.rpki_issue.proofs.RowsLaws.{usage-legal}
use Rattle.rpki_issue.proofs.listed.push_usage.Goals as goal

pub push-requires-clause-all : goal.push-requires-clause-all
push-requires-clause-all c =
    subst (λ (w : List ℕ). AreShort (row_parts KeyUsage w)) (sym c.encode_usage.ensures.octets)
    (usage-legal c.args.usage).short
