use Rattle.rpki_der.specs.Reading.{AnyFault}
use Rattle.rpki_cert.specs.AccessInformation.{SpellsUriOf}
use Rattle.rpki_cert.proofs.ProfileLaws.{uri-other, uri-wrong}
use Rattle.rpki_cert.proofs.profile.checks.inspect_access.Goals as goal

pub returns-in-Ok-Some : goal.returns-in-Ok-Some
returns-in-Ok-Some c = λ found h. let k = rw c.in-Ok-Some.field-0-is at c.in-Ok-Some.ensures found h in (_, k)

pub returns-in-Ok-None : goal.returns-in-Ok-None
returns-in-Ok-None c = λ found h.
    let k = rw c.in-Ok-None.field-0-is at c.in-Ok-None.ensures found h in
    uri-other (SpellsUriOf c.args.method) AnyFault c.args.rule found c.rejected.result k c.rejected.ensures

pub returns-in-Err : goal.returns-in-Err
returns-in-Err c = λ found h. uri-wrong (SpellsUriOf c.args.method) AnyFault c.args.rule found c.in-Err.e
    (c.in-Err.ensures found h)
