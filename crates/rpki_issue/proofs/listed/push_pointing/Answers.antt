use Rattle.std.proofs.Common.{[], ◌∷◌, ◌++◌}
use Rattle.rpki_issue.specs.Extensions.{points_part, issuers_part, access_part, practices_of}
use Rattle.rpki_issue.specs.Rows.{policies_extension}
use Rattle.rpki_issue.proofs.ListedLaws.{more-then}
use Rattle.rpki_issue.proofs.listed.push_pointing.Goals as goal

pub returns : goal.returns
returns c =
    let k = c.args.said.now.kind in
    more-then _ _ _ (points_part k ++ issuers_part k ++ access_part k)
    (policies_extension (practices_of c.args.said.now) ∷ [])
    (more-then _ _ _ (points_part k ++ issuers_part k) (access_part k)
    (more-then _ _ _ (points_part k) (issuers_part k) c.in_ok-push_points.ensures c.in_ok-push_issuers.ensures)
    c.in_ok-push_access.ensures)
    c.in_ok-push_policies.ensures
