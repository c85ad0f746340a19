use Rattle.std.proofs.Common.{List, ℕ, sym, subst}
use Rattle.rpki.specs.ExtensionValue.{AreShort}
use Rattle.rpki_issue.specs.RowNames.{row_parts}
use Rattle.rpki_issue.specs.declared.row.Row.TheVariants.{CrlDistributionPoints}
use Rattle.rpki_issue.proofs.RowsLaws.{points-legal}
use Rattle.rpki_issue.proofs.listed.push_list.Goals as goal

pub push-requires-clause-all : goal.push-requires-clause-all
push-requires-clause-all c =
    subst (λ (w : List ℕ). AreShort (row_parts CrlDistributionPoints w)) (sym c.encode_points.ensures.octets)
    (points-legal c.args.uri.now c.requires).short
