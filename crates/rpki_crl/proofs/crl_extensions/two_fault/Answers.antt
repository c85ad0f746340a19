use Rattle.std.proofs.Common.{rules, Ok, Err, refl}
use Rattle.rpki_der.proofs.FoldLaws.{takes-fold}
use Rattle.rpki.specs.ExtensionFault.{extension}
use Rattle.rpki_crl.specs.CrlView.{Passes}
use Rattle.rpki_crl.proofs.TwoLaws.{not-two, no-extension, nowhere}
use Rattle.rpki_crl.proofs.crl_extensions.two_fault.Goals as goal

pub returns-in-Ok : goal.returns-in-Ok
returns-in-Ok c =
    not-two _ _ _ c.requires
    (takes-fold Passes extension _ (λ from b a x h. search rules) nowhere tt _ _ (Ok tt) c.in-Ok.ensures)
    (rw c.content.ensures refl)

pub returns-in-Err : goal.returns-in-Err
returns-in-Err c =
    no-extension _ _ _
    (takes-fold Passes extension _ (λ from b a x h. search rules) nowhere tt _ _ (Err c.in-Err.e) c.in-Err.ensures)
