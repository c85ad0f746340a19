use Rattle.rpki_valid.specs.Verified.{terms_in}
use Rattle.rpki_validation.proofs.WalkLaws.{told-under}
use Rattle.rpki_validation.proofs.walk.validate.Goals as goal

pub returns : goal.returns
returns g c = λ published known.
    told-under g.P.Provider published
    c.args.at c.args.uris.now c.in_ok-anchor.anchor c.in_ok-outcome.outcome (terms_in c.args.terms)
    c.args.provider.now c.in_ok-anchor.ensures.terms c.in_ok-anchor.ensures.provider
    (c.in_ok-anchor.ensures.exactly published known) (c.in_ok-outcome.ensures published known)
