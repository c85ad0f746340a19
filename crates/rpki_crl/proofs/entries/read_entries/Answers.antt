use Rattle.std.proofs.Common.{rules}
use Rattle.rpki_der.proofs.FoldLaws.{takes-fold}
use Rattle.rpki_crl.specs.Crl.{entry}
use Rattle.rpki_crl.specs.CrlView.{Keeps}
use Rattle.rpki_crl.proofs.EntriesLaws.{all-entries, nowhere}
use Rattle.rpki_crl.proofs.entries.read_entries.Goals as goal

pub returns : goal.returns
returns c =
    all-entries _ _ _ (takes-fold Keeps entry _ (λ from b a x h. search rules) nowhere tt _ _ _ c.fold_each.ensures)
