use Rattle.std.proofs.Common.{inl, inr, ap, sym, subst}
use Rattle.rpki_der.specs.declared.error.DecodeError.{DecodeError}
use Rattle.rpki_der.specs.Reading.{UnlessMemory, SpellsNothing, IsWholeFault}
use Rattle.rpki_der.proofs.ComposedLaws.{all-read, more-left, not-read}
use Rattle.rpki_cert.specs.declared.read.cert_part.CertPart.{CertPart}
use Rattle.rpki_cert.specs.Cert.{SpellsCert}
use Rattle.rpki_cert.specs.CertError.{cert_error}
use Rattle.rpki_cert.specs.CertFault.{IsCertFault}
use Rattle.rpki_cert.proofs.cert.Cert.decode.Goals as goal

pub returns-in-Err-clause-decodes : goal.returns-in-Err-clause-decodes
returns-in-Err-clause-decodes c =
    rw c.new-cons.ensures at (not-read SpellsCert IsCertFault _ _ _ c.in-Err.ensures.reads)

pub returns-in-Err-clause-part : goal.returns-in-Err-clause-part
returns-in-Err-clause-part c = inl (rw c.new-cons.ensures at c.in-Err.ensures.part)

pub returns-in-Ok-finish-clause-decodes : goal.returns-in-Ok-finish-clause-decodes
returns-in-Ok-finish-clause-decodes c =
    let a = rw c.new-cons.ensures at c.in-Ok.ensures.reads in
    all-read SpellsCert _ _ _ a c.in-Ok-finish.ensures

pub returns-clause-decodes : goal.returns-clause-decodes
returns-clause-decodes c =
    let a = rw c.new-cons.ensures at c.in-Ok.ensures.reads in
    subst (λ (e : DecodeError). UnlessMemory e (SpellsNothing SpellsCert c.args.bytes)
    × IsWholeFault SpellsCert IsCertFault c.args.bytes e) (sym c.in-Err-finish.ensures.0)
    (more-left SpellsCert IsCertFault _ _ _ a c.in-Err-finish.ensures.1)

pub returns-clause-part : goal.returns-clause-part
returns-clause-part c =
    let a = rw c.new-cons.ensures at c.in-Ok.ensures.reads in
    inr ((_, _, a.spells), ap (cert_error CertPart.Certificate) c.in-Err-finish.ensures.0)
