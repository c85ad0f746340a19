use Rattle.rpki_validation.specs.Basis.{basis_by}
use Rattle.rpki_validation.proofs.SignedDownLaws.{origin-down, providers-down, router-down}
use Rattle.rpki_validation.proofs.laws.payloads_are_signed_down.Goals as goal

pub returns-clause-origins : goal.returns-clause-origins
returns-clause-origins g c = λ published terms at uris v h.
    let p = g.P.Provider in
    origin-down published (basis_by p terms c.args._provider.now at) uris v h

pub returns-clause-providers : goal.returns-clause-providers
returns-clause-providers g c = λ published terms at uris v h.
    let p = g.P.Provider in
    providers-down published (basis_by p terms c.args._provider.now at) uris v h

pub returns-clause-routers : goal.returns-clause-routers
returns-clause-routers g c = λ published terms at uris x h.
    let p = g.P.Provider in
    router-down published (basis_by p terms c.args._provider.now at) uris x h
