use Rattle.std.proofs.Common.{subst, List}
use Rattle.std.proofs.lemmas.List.{take_all}
use Rattle.rpki_contents.specs.ListedFile.{ListedFile}
use Rattle.rpki_contents.proofs.NamesLaws.{AreNamesOf, files-differ}
use Rattle.rpki_contents.proofs.names.are_distinct.Goals as goal

pub returns-clause-ok : goal.returns-clause-ok
returns-clause-ok c =
    let whole = take_all c.files.file-index c.args.files.now c.files-test.false in
    let names = subst (λ (xs : List ListedFile). AreNamesOf c.files.names.items xs) whole c.files.invariant in
    let same = files-differ c.files.names.items c.args.files.now names in
    let found = rw c.deref_mut.ensures.value at c.differ.ensures in
    (λ z. same.0 (found.0 z), λ h. found.1 (same.1 h))
