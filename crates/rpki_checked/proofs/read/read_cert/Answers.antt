use Rattle.rpki_der.specs.Prelude.{IsWholeFault}
use Rattle.rpki_cert.specs.Cert.{SpellsCert}
use Rattle.rpki_cert.specs.CertFault.{IsCertFault}
use Rattle.rpki_checked.proofs.ReadLaws.{no-memory, read, unread}
use Rattle.rpki_checked.proofs.read.read_cert.Goals as goal

pub returns-in-Err : goal.returns-in-Err
returns-in-Err c =
    no-memory SpellsCert (IsWholeFault SpellsCert IsCertFault) c.args.octets.now c.in-Err.e c.in-Err.ensures.err

pub returns-in-Ok-decode : goal.returns-in-Ok-decode
returns-in-Ok-decode c =
    read SpellsCert c.in-Ok.bytes c.args.octets.now c.in-Ok-decode.cert c.in-Ok.ensures.ok
    c.in-Ok-decode.ensures.decodes

pub returns-in-Err-decode : goal.returns-in-Err-decode
returns-in-Err-decode c =
    unread SpellsCert (IsWholeFault SpellsCert IsCertFault) c.in-Ok.bytes c.args.octets.now c.in-Err-decode.wrong.error
    c.in-Ok.ensures.ok c.in-Err-decode.ensures.decodes
