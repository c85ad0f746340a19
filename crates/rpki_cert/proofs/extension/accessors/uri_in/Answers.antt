use Rattle.rpki_cert.proofs.InformationLaws.{told-uri, wrong-uri}
use Rattle.rpki_cert.proofs.extension.accessors.uri_in.Goals as goal

pub returns-in-Ok-Some : goal.returns-in-Ok-Some
returns-in-Ok-Some c = λ found h.
    let some = rw c.in-Ok-Some.is at c.in-Ok-Some.field-0-is in
    let told = rw some at (rw c.in-Ok-Some.is at h) in
    rw c.uri.ensures (told-uri c.args.method found _ told)

pub returns-in-Err : goal.returns-in-Err
returns-in-Err c = λ found h. wrong-uri c.args.method found c.in-Err.e (rw c.in-Err.is at h)
