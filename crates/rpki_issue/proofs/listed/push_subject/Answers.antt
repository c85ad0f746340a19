use Rattle.std.proofs.Common.{List, ℕ, sym, subst}
use Rattle.rpki.specs.ExtensionValue.{AreShort}
use Rattle.rpki_issue.specs.RowNames.{row_parts}
use Rattle.rpki_issue.specs.declared.row.Row.TheVariants.{SubjectKeyIdentifier}
use Rattle.rpki_issue.proofs.RowsLaws.{subject-legal}
use Rattle.rpki_issue.proofs.listed.push_subject.Goals as goal

pub push-requires-clause-all : goal.push-requires-clause-all
push-requires-clause-all c =
    let content = c.encode_subject_identifier-content.ensures in
    subst (λ (w : List ℕ). AreShort (row_parts SubjectKeyIdentifier w)) (sym content.octets)
    (subject-legal c.args.key content.size).short
