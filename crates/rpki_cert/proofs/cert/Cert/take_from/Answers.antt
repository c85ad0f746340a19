use Rattle.rpki_cert.specs.declared.read.cert_part.CertPart.{CertPart}
use Rattle.rpki_cert.specs.Cert.{SpellsCert}
use Rattle.rpki_cert.specs.CertError.{cert_error}
use Rattle.rpki_cert.specs.CertFault.{IsFrontError}
use Rattle.rpki_cert.specs.View.FirstWrong.{Later}
use Rattle.rpki_cert.proofs.CertLaws.{unframed, refused-front, unkept-front, cert-of, cert-accepted, cert-found}
use Rattle.rpki_cert.proofs.WrongLaws.{front-wrong}
use Rattle.rpki_cert.proofs.cert.Cert.take_from.Goals as goal

pub returns-in-Err-clause-reads : goal.returns-in-Err-clause-reads
returns-in-Err-clause-reads g c =
    refused-front SpellsCert IsFrontError front-wrong _ (cert_error CertPart.Certificate c.in-Err.error)
    (unframed CertPart.Certificate _ _ _ _ c.in-Err.ensures)

pub returns-in-Err-read_contents-clause-reads : goal.returns-in-Err-read_contents-clause-reads
returns-in-Err-read_contents-clause-reads g c =
    refused-front SpellsCert IsFrontError front-wrong _ c.in-Err-read_contents.wrong
    (Later _ _ c.in-Ok.ensures c.in-Err-read_contents.ensures.err)

pub returns-in-Err-read_contents-clause-part : goal.returns-in-Err-read_contents-clause-part
returns-in-Err-read_contents-clause-part g c = λ other. Later _ _ c.in-Ok.ensures c.in-Err-read_contents.ensures.err

pub keep_cert-requires-clause-stands : goal.keep_cert-requires-clause-stands
keep_cert-requires-clause-stands g c = cert-of _ _ _ _ c.in-Ok.ensures c.in-Ok-read_contents.ensures.ok

pub returns-in-Ok-keep_cert-clause-reads : goal.returns-in-Ok-keep_cert-clause-reads
returns-in-Ok-keep_cert-clause-reads g c =
    cert-accepted _ _ _ _ _ c.in-Ok.ensures c.in-Ok-read_contents.ensures.ok c.in-Ok-keep_cert.ensures.ok

pub returns-in-Err-keep_cert-clause-reads : goal.returns-in-Err-keep_cert-clause-reads
returns-in-Err-keep_cert-clause-reads g c =
    let (x, spelled) = cert-found _ _ _ _ c.in-Ok.ensures c.in-Ok-read_contents.ensures.ok in
    unkept-front SpellsCert IsFrontError front-wrong _ _ x _ spelled c.in-Err-keep_cert.ensures.err
