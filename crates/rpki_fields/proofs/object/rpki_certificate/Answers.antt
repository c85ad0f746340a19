use Rattle.std.proofs.Common.{rules}
use Rattle.rpki_der.proofs.InsideLaws.{read-whole}
use Rattle.rpki_cert.specs.Cert.{SpellsCert}
use Rattle.rpki_cert.specs.CertFault.{IsCertFault}
use Rattle.rpki_fields.proofs.object.rpki_certificate.Goals as goal

pub returns : goal.returns
returns c = read-whole (λ x. x) SpellsCert IsCertFault _ (λ b a x h. search rules) _ _
    (rw c.new.ensures at c.whole_with.ensures)
