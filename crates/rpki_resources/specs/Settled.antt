-- The resources that certificates have, down a chain (RFC 6487 7.2, RFC 8360 4.2).
use Rattle.std.specs.Prelude.{◌≡◌, ◌⊎◌, List, [], ◌∷◌}
use Rattle.rpki_resources.specs.declared.block.Block.{Block}
use Rattle.rpki_resources.specs.declared.choice.ResourcesChoice.{ResourcesChoice}
use Rattle.rpki_resources.specs.declared.choice.ResourcesChoice.TheVariants.{Missing, Inherit, Blocks}
use Rattle.rpki_resources.specs.Blocks.{IsSubset, AreShared}

-- What is listed is within the issuer's resources: so there is no overclaim.
abbrev pub IsWithin : ResourcesChoice → List Block → Type 0
IsWithin Missing issuer = Unit {0}
IsWithin Inherit issuer = Unit {0}
IsWithin (Blocks bs) issuer = IsSubset bs issuer

-- The resources of the subject: none, the issuer's, or those that it lists (RFC 6487 7.2).
abbrev pub are_claimed : ResourcesChoice → List Block → List Block
are_claimed Missing issuer = []
are_claimed Inherit issuer = issuer
are_claimed (Blocks bs) issuer = bs

-- Settled as RFC 6487 7.2 says: what is claimed, which is within the issuer's.
pub record IsSettled (choice : ResourcesChoice) (issuer subject : List Block) : Type 0 where
  pub within : IsWithin choice issuer
  pub claimed : subject ≡ are_claimed choice issuer

-- Settled as RFC 8360 4.2.4.4 says: of what is listed, that which the issuer has.
abbrev pub IsTrimmed : ResourcesChoice → List Block → List Block → Type 0
IsTrimmed Missing issuer subject = subject ≡ []
IsTrimmed Inherit issuer subject = subject ≡ issuer
IsTrimmed (Blocks bs) issuer subject = AreShared bs issuer subject

-- The resources of a trust anchor: it lists what it has, and there is no issuer to inherit from (RFC 6487 7.2).
abbrev pub IsAnchored : ResourcesChoice → List Block → Type 0
IsAnchored Missing own = own ≡ []
IsAnchored Inherit own = ⊥
IsAnchored (Blocks bs) own = own ≡ bs

-- by the one policy or the other
abbrev pub IsSettledByEither : ResourcesChoice → List Block → List Block → Type 0
IsSettledByEither choice issuer subject = IsSettled choice issuer subject ⊎ IsTrimmed choice issuer subject

-- Down a chain, from the resources of the first issuer to those of the last subject.
abbrev pub SettlesDown : List Block → List ResourcesChoice → List Block → Type 0
SettlesDown top [] bottom = bottom ≡ top
SettlesDown top (choice ∷ choices) bottom =
    (subject : List Block) × IsSettledByEither choice top subject × SettlesDown subject choices bottom

-- Down the upper part of a chain, and from what that settles down the lower part.
abbrev pub SettlesThrough : List Block → List ResourcesChoice → List ResourcesChoice → List Block → Type 0
SettlesThrough top upper lower bottom =
    (middle : List Block) × SettlesDown top upper middle × SettlesDown middle lower bottom
