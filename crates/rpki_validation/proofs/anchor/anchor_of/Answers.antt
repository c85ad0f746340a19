use Rattle.rpki_valid.specs.Verified.{terms_in}
use Rattle.rpki_validation.specs.Basis.{basis_by}
use Rattle.rpki_validation.proofs.AnchorLaws.{uris-end, uris-found, uris-start, uris-step}
use Rattle.rpki_validation.proofs.anchor.anchor_of.Goals as goal

pub uris-init : goal.uris-init
uris-init g c = λ published known.
    let p = g.P.Provider in
    let b = basis_by p (terms_in c.args.terms) c.args.provider.now c.args.at in
    uris-start published b c.args.uris.now

pub uris-preserved : goal.uris-preserved
uris-preserved g c = λ published known.
    let p = g.P.Provider in
    let b = basis_by p (terms_in c.args.terms) c.args.provider.now c.args.at in
    let stops = c.in-Err-Rejected.ensures.exactly published known in
    uris-step published b c.args.uris.now c.uris.rest.now c.in-Some.uri.now c.in-Some.following.now c.uris.last
    c.in-Some.ensures.cases.0 (c.uris.invariant published known) c.in-Err-Rejected.reason
    (rw c.in-Err-Rejected.field-0-is at stops)

pub returns-in-Ok-clause-exactly : goal.returns-in-Ok-clause-exactly
returns-in-Ok-clause-exactly g c = λ published known.
    let p = g.P.Provider in
    let b = basis_by p (terms_in c.args.terms) c.args.provider.now c.args.at in
    uris-found published b c.args.uris.now c.uris.rest.now c.in-Some.uri.now c.in-Some.following.now c.uris.last
    c.in-Some.ensures.cases.0 (c.uris.invariant published known) _ (c.in-Ok.ensures.exactly published known)

pub returns-clause-exactly : goal.returns-clause-exactly
returns-clause-exactly g c = λ published known.
    let p = g.P.Provider in
    let b = basis_by p (terms_in c.args.terms) c.args.provider.now c.args.at in
    uris-end published b c.args.uris.now c.uris.rest.now c.uris.last c.in_default.ensures.cases
    (c.uris.invariant published known)
