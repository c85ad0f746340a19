use Rattle.std.proofs.Common.{length}
use Rattle.rpki_valid.specs.Verified.{terms_in}
use Rattle.rpki_validation.specs.Basis.{basis_by}
use Rattle.rpki_validation.specs.Snapshot.{Where}
use Rattle.rpki_validation.proofs.AnchorLaws.{IsAfter}
use Rattle.rpki_validation.proofs.anchor.anchor_of.Given as goal

-- what is first among all URIs is first among the rest
abbrev pub invariant-uris : goal.invariant-uris
invariant-uris g l =
    Where (g.S.Snapshot.holds l.snapshot)
    (λ published. IsAfter published
    (basis_by g.P.Provider (terms_in l.terms)
    l.provider l.at)
    l.fn.uris l.rest l.last)

abbrev pub decreases-uris : goal.decreases-uris
decreases-uris g l = length l.rest
