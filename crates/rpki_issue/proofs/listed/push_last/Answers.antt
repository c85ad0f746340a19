use Rattle.rpki_issue.specs.Extensions.{addresses_part, numbers_part, addresses_of, numbers_of}
use Rattle.rpki_issue.proofs.ListedLaws.{more-then}
use Rattle.rpki_issue.proofs.listed.push_last.Goals as goal

pub returns-clause-more : goal.returns-clause-more
returns-clause-more c =
    let x = c.args.said.now in
    more-then _ _ _ (addresses_part (addresses_of x)) (numbers_part (numbers_of x)) c.in_ok-push_addresses.ensures.more
    c.in_ok-push_numbers.ensures.more
