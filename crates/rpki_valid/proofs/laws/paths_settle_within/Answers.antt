use Rattle.rpki.specs.Checkers.{checkers_of}
use Rattle.rpki_valid.proofs.VerifiedLaws.{path-within}
use Rattle.rpki_valid.proofs.laws.paths_settle_within.Goals as goal

pub returns : goal.returns
returns g c = λ strict asked.
    path-within strict asked (checkers_of g.P.Provider c.args.provider.now)
