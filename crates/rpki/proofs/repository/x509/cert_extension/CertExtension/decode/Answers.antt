use Rattle.std.proofs.Common.{rules}
use Rattle.rpki_der.proofs.InsideLaws.{read-whole}
use Rattle.rpki.specs.ExtensionValue.{SpellsExtension}
use Rattle.rpki.specs.ExtensionFault.{captured_extension}
use Rattle.rpki.proofs.repository.x509.cert_extension.CertExtension.decode.Goals as goal

pub returns : goal.returns
returns c = read-whole (λ x. x) SpellsExtension captured_extension.fault _ (λ b a x h. search rules) _ _
    (rw c.new.ensures at c.whole_with.ensures)
