-- What is reached is an authority of the layer below.
use Rattle.std.specs.Prelude.{ℕ, List, Some}
use Rattle.jiff.specs.Types.{DateTime}
use Rattle.rpki.specs.Checkers.{Models, checkers_of}
use Rattle.rpki_locator.specs.declared.anchor_uri.AnchorUri.{AnchorUri}
use Rattle.rpki_valid.specs.declared.staleness.Staleness.TheVariants.{Refused}
use Rattle.rpki_valid.specs.Verified.{Holder, IsAuthorityAt, Terms}
use Rattle.rpki_validation.specs.Basis.{basis_by}
use Rattle.rpki_validation.specs.Counts.{Counts}
use Rattle.rpki_validation.specs.Snapshot.{Published}

-- a path of authorities leads from each that counts to a trust anchor, and a list of each was asked
abbrev pub ReachedAreAuthorities : {X : Type 0} → Models X → X → Type 0
ReachedAreAuthorities models provider =
    (published : Published) (terms : Terms) (at : DateTime) (uris : List AnchorUri) (x : Holder)
    → Counts published (basis_by models terms provider at) uris x
    → (n : ℕ) × IsAuthorityAt terms (Some Refused) (checkers_of models provider) at n x
