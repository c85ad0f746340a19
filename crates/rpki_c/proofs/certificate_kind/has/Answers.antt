use Rattle.rpki_cert.specs.Cert.{find}
use Rattle.rpki_cert.specs.ExtensionTable.{identifier_of}
use Rattle.rpki_c.proofs.CertificateLaws.{there-of}
use Rattle.rpki_c.proofs.certificate_kind.has.Goals as goal

pub returns : goal.returns
returns c = λ s x h.
    there-of (find (identifier_of c.args.kind) x.tbs.extensions) c.extension_of.result (c.extension_of.ensures s x h)
