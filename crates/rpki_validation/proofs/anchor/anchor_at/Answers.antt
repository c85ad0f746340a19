use Rattle.std.proofs.Common.{◌∙◌, sym}
use Rattle.rpki_valid.specs.Verified.{terms_in}
use Rattle.rpki_validation.specs.Basis.{basis_by}
use Rattle.rpki_validation.proofs.AnchorLaws.{fetched-none, fetched-there}
use Rattle.rpki_validation.proofs.anchor.anchor_at.Goals as goal

pub returns-in-Some-clause-exactly : goal.returns-in-Some-clause-exactly
returns-in-Some-clause-exactly g c = λ published known.
    let p = g.P.Provider in
    let b = basis_by p (terms_in c.args.terms) c.args.provider.now c.args.at in
    let found = c.in_ok-octets.ensures published known in
    fetched-there published b c.args.uri.now c.in-Some.octets (sym found ∙ c.in-Some.is) c.anchor_in.result
    c.anchor_in.ensures.exactly

pub returns-in-None-clause-exactly : goal.returns-in-None-clause-exactly
returns-in-None-clause-exactly g c = λ published known.
    let p = g.P.Provider in
    let b = basis_by p (terms_in c.args.terms) c.args.provider.now c.args.at in
    let found = c.in_ok-octets.ensures published known in
    fetched-none published b c.args.uri.now (sym found ∙ c.in-None.is)
