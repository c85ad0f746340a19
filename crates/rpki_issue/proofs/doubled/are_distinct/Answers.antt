use Rattle.std.proofs.Common.{subst, List}
use Rattle.std.proofs.lemmas.List.{take_all}
use Rattle.rpki_crl.specs.declared.crl_entry.CrlEntry.{CrlEntry}
use Rattle.rpki_issue.proofs.DoubledLaws.{AreNumbersOf, entries-differ}
use Rattle.rpki_issue.proofs.doubled.are_distinct.Goals as goal

pub returns-clause-ok : goal.returns-clause-ok
returns-clause-ok c =
    let whole = take_all c.entries.entry-index c.args.entries.now c.entries-test.false in
    let numbers = subst (λ (xs : List CrlEntry). AreNumbersOf c.entries.numbers.items xs) whole c.entries.invariant in
    let same = entries-differ c.entries.numbers.items c.args.entries.now numbers in
    let found = rw c.deref_mut.ensures.value at c.differ.ensures in
    (λ z. same.0 (found.0 z), λ h. found.1 (same.1 h))
