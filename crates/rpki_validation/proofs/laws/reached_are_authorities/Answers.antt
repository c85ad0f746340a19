use Rattle.rpki_validation.specs.Basis.{basis_by}
use Rattle.rpki_validation.proofs.ReachedLaws.{counts-is-authority}
use Rattle.rpki_validation.proofs.laws.reached_are_authorities.Goals as goal

pub returns : goal.returns
returns g c = λ published terms at uris x h.
    let p = g.P.Provider in
    counts-is-authority published
    (basis_by p terms c.args._provider.now at) uris x h
