use Rattle.std.proofs.Common.{rules}
use Rattle.rpki_der.proofs.InsideLaws.{read-whole-exactly}
use Rattle.rpki.specs.ExtensionValue.{SpellsExtension}
use Rattle.rpki.specs.ExtensionFault.{extension}
use Rattle.rpki.proofs.ExtensionFaultLaws.{extension-outer}
use Rattle.rpki_c.proofs.extensions.read_extension.Goals as goal

pub returns : goal.returns
returns c = read-whole-exactly (λ x. x) SpellsExtension extension.fault (λ s e k. (extension-outer s e k).other) _
    (λ b a x h. search rules) _ _ (rw c.from_slice.ensures at c.whole.ensures)
