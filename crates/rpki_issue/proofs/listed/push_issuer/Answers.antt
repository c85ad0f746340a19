use Rattle.std.proofs.Common.{List, ℕ, sym, subst}
use Rattle.rpki.specs.ExtensionValue.{AreShort}
use Rattle.rpki_issue.specs.RowNames.{row_parts}
use Rattle.rpki_issue.specs.declared.row.Row.TheVariants.{AuthorityKeyIdentifier}
use Rattle.rpki_issue.proofs.RowsLaws.{authority-legal}
use Rattle.rpki_issue.proofs.listed.push_issuer.Goals as goal

pub push-requires-clause-all : goal.push-requires-clause-all
push-requires-clause-all c =
    let content = c.encode_authority-content.ensures in
    subst (λ (w : List ℕ). AreShort (row_parts AuthorityKeyIdentifier w)) (sym content.octets)
    (authority-legal c.args.issuance.now.key content.size).short
