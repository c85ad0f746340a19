use Rattle.rpki_validation.specs.Named.{Stands}
use Rattle.rpki_validation.proofs.NamedLaws.{not-so, ok-map, stands-at, stands-none}
use Rattle.rpki_validation.proofs.named.stands.Goals as goal

pub returns-in-Some : goal.returns-in-Some
returns-in-Some g c = λ published known.
    let place = rw c.tbs.ensures at (c.in_ok-uri.ensures published known) in
    ok-map _ _ c.is_cert_at.result
    (stands-at published c.args.strict c.args.cert.now c.in_ok-uri.field-0 place c.in-Some.uri c.in-Some.is)
    (c.is_cert_at.ensures published known)

pub returns-in-None : goal.returns-in-None
returns-in-None g c = λ published known.
    let place = rw c.tbs.ensures at (c.in_ok-uri.ensures published known) in
    not-so (Stands published c.args.strict c.args.cert.now)
    (stands-none published c.args.strict c.args.cert.now c.in_ok-uri.field-0 place c.in-None.is)
