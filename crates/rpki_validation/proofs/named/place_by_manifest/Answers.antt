use Rattle.rpki_validation.proofs.NamedLaws.{named-by, named-by-none, ok-map}
use Rattle.rpki_validation.proofs.named.place_by_manifest.Goals as goal

pub returns-in-Ok : goal.returns-in-Ok
returns-in-Ok g c = λ published known.
    let names = rw (c.tbs.ensures, c.cert.ensures, c.object.ensures) at c.issuer_place.ensures in
    ok-map _ _ c.issuer_place.result
    (named-by published c.args.strict c.args.tbs.now c.in-Ok.manifest (c.in-Ok.ensures published known)) names

pub returns : goal.returns
returns g c = λ published known.
    let none = rw c.in-Err-Rejected.field-0-is at (c.in-Err-Rejected.ensures published known) in
    named-by-none published c.args.strict c.args.tbs.now none.0
