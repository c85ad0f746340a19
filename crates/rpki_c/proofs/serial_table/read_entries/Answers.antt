use Rattle.std.proofs.Common.{rules}
use Rattle.rpki_der.proofs.FoldLaws.{takes-fold}
use Rattle.rpki_crl.specs.Crl.{entry}
use Rattle.rpki_crl.specs.CrlView.{Keeps}
use Rattle.rpki_crl.proofs.EntriesLaws.{nowhere}
use Rattle.rpki_c.proofs.SerialTableLaws.{entries-read}
use Rattle.rpki_c.proofs.serial_table.read_entries.Goals as goal

pub returns : goal.returns
returns c =
    let folds = rw c.from_slice-rest.ensures at c.fold_each.ensures in
    entries-read _ _ _ (takes-fold Keeps entry _ (λ from b a x h. search rules) nowhere tt _ _ _ folds)
