use Rattle.std.proofs.Common.{[], ◌∷◌, ◌++◌}
use Rattle.rpki_issue.specs.Extensions.{constraints_part, authority_part, usage_of, purposes_part}
use Rattle.rpki_issue.specs.Rows.{subject_extension, usage_extension}
use Rattle.rpki_issue.proofs.ListedLaws.{more-then}
use Rattle.rpki_issue.proofs.listed.push_own.Goals as goal

pub returns-clause-more : goal.returns-clause-more
returns-clause-more c =
    let k = c.args.said.now.kind in
    let one = constraints_part k in
    let two = subject_extension c.args.said.now.subject_key ∷ [] in
    let three = authority_part k in
    let four = usage_extension (usage_of k) ∷ [] in
    let use_of = rw c.usage.ensures at c.in_ok-push_usage.ensures in
    more-then _ _ _ (one ++ two ++ three ++ four) (purposes_part k)
    (more-then _ _ _ (one ++ two ++ three) four
    (more-then _ _ _ (one ++ two) three
    (more-then _ _ _ one two c.in_ok-push_constraints.ensures c.in_ok-push_subject.ensures.more)
    c.in_ok-push_authority.ensures.more)
    use_of)
    c.in_ok-push_purposes.ensures
