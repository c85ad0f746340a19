use Rattle.std.proofs.Common.{Some, None, ap}
use Rattle.rpki_der.specs.IndexMembers.{member_numbers}
use Rattle.rpki_der.proofs.IndexLaws.{one-index}
use Rattle.rpki_der.proofs.MemberLaws.{members-within}
use Rattle.rpki_der.proofs.captured.Captured.members.Goals as goal

pub returns-in-None-clause-numbers : goal.returns-in-None-clause-numbers
returns-in-None-clause-numbers c = λ index i.
    let found = c.outer_members.ensures in
    rw (c.in-None.is, found.2) (ap (member_numbers None) (one-index i found.1))

pub returns-in-None-clause-entries : goal.returns-in-None-clause-entries
returns-in-None-clause-entries c =
    let found = c.outer_members.ensures in
    rw found.2 (members-within c.args.self.now None found.0 found.1)

pub returns-in-Some-clause-numbers : goal.returns-in-Some-clause-numbers
returns-in-Some-clause-numbers c = λ index i.
    let found = c.inner_members.ensures in
    rw (c.in-Some.is, found.2) (ap (member_numbers (Some c.in-Some.number)) (one-index i found.1))

pub returns-in-Some-clause-entries : goal.returns-in-Some-clause-entries
returns-in-Some-clause-entries c =
    let found = c.inner_members.ensures in
    rw found.2 (members-within c.args.self.now (Some c.in-Some.number) found.0 found.1)
