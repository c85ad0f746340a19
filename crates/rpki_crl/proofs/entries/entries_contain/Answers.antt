use Rattle.std.proofs.Common.{rules, false}
use Rattle.rpki_der.proofs.FoldLaws.{takes-fold}
use Rattle.rpki_crl.specs.Crl.{entry}
use Rattle.rpki_crl.specs.CrlView.{Looks}
use Rattle.rpki_crl.proofs.EntriesLaws.{finds, nowhere}
use Rattle.rpki_crl.proofs.entries.entries_contain.Goals as goal

pub returns : goal.returns
returns c =
    let n = c.args.serial in
    let folds = rw c.from_slice-rest.ensures at c.fold_each.ensures in
    finds n _ _ _ (takes-fold (Looks n) entry _ (λ from b a x h. search rules) nowhere false _ _ _ folds)
