use Rattle.std.proofs.Common.{arith}
use Rattle.rpki_der.proofs.ListedLaws.{all-have, none-has}
use Rattle.rpki_issue.proofs.ListLaws.{IsKnown, entries-known}
use Rattle.rpki_issue.proofs.crl_written.know_entries.Goals as goal

pub each-init : goal.each-init
each-init c = record { all = λ h. h }

pub each-smaller : goal.each-smaller
each-smaller c =
    let is = c.in-Some.ensures.cases.0 in
    rw is (omega arith)

pub each-preserved : goal.each-preserved
each-preserved c =
    let is = c.in-Some.ensures.cases.0 in
    record { all = λ h. c.each.invariant.all (all-have IsKnown _ _ _ is c.encode.ensures.entry h) }

pub returns : goal.returns
returns c =
    entries-known _ (c.each.invariant.all (none-has IsKnown c.each.rest.now c.in_default.ensures.cases))
