use Rattle.std.proofs.Common.{◌∙◌, refl}
use Rattle.rpki_c.proofs.CertificateLaws.{listed}
use Rattle.rpki_c.proofs.certificate_extensions.extension_of.Goals as goal

pub returns-in-Some : goal.returns-in-Some
returns-in-Some c = λ s x h.
    let some = c.in-Some.ensures x.tbs.extensions (listed h) in
    rw (← some) (refl, c.critical.ensures, c.of.ensures ∙ c.octets.ensures)
