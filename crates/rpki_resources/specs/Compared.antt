-- Whether the resources of a certificate are within those of its issuer, as the octets of both list them (RFC 6487
-- 7.2).
use Rattle.std.specs.Prelude.{◌⊎◌, ◌↔◌, ℕ, Bool, List, [], Some, IsTrue}
use Rattle.rpki_resources.specs.declared.block.Block.{Block}
use Rattle.rpki_resources.specs.declared.choice.ResourcesChoice.{ResourcesChoice}
use Rattle.rpki_resources.specs.declared.choice.ResourcesChoice.TheVariants.{Missing, Inherit, Blocks}
use Rattle.rpki_resources.specs.declared.resources.IpResources.{IpResources}
use Rattle.rpki_resources.specs.declared.resources.AsResources.{AsResources}
use Rattle.rpki_resources.specs.declared.kind.ResourceKind.{ResourceKind}
use Rattle.rpki_resources.specs.Blocks.{IsSubset}
use Rattle.rpki_resources.specs.Listed.{AreBlocks, SpellsFollowing}
use Rattle.rpki_resources.specs.Kept.{SpellsIp, SpellsAs}
use Rattle.rpki_resources.specs.Settled.{IsWithin}

-- the blocks that are listed
abbrev pub listed : ResourcesChoice → List Block
listed Missing = []
listed Inherit = []
listed (Blocks bs) = bs

-- the first lists blocks, and the second has those of an issuer: which these are, its octets don't say
abbrev pub IsUntold : ResourcesChoice → ResourcesChoice → Type 0
IsUntold Missing outer = ⊥
IsUntold Inherit outer = ⊥
IsUntold (Blocks bs) Missing = ⊥
IsUntold (Blocks bs) Inherit = Unit {0}
IsUntold (Blocks bs) (Blocks cs) = ⊥

-- Whether resources are within those of the second, an issuer's: none, and those of the issuer, always are; those that
-- are listed where each of their numbers is listed there (RFC 6487 7.2).
abbrev pub SaysWithin : ResourcesChoice → ResourcesChoice → Bool → Type 0
SaysWithin inner outer answer = IsTrue answer ↔ IsWithin inner (listed outer)

-- the same of both families: each has an answer, and it is yes for both
pub record SaysBothWithin (inner outer : IpResources) (answer : Bool) : Type 0 where
  pub v4 : IsUntold inner.v4 outer.v4 → ⊥
  pub v6 : IsUntold inner.v6 outer.v6 → ⊥
  pub within : IsTrue answer ↔ (IsWithin inner.v4 (listed outer.v4) × IsWithin inner.v6 (listed outer.v6))

-- a family has no answer
abbrev pub IsUntoldOfEither : IpResources → IpResources → Type 0
IsUntoldOfEither inner outer = IsUntold inner.v4 outer.v4 ⊎ IsUntold inner.v6 outer.v6

-- ---- of octets

-- both octets are blocks that may be after a number, or there are none; and that either are not
abbrev pub BothFollow : ResourceKind → ℕ → List ℕ → ℕ → List ℕ → Type 0
BothFollow kind m s n t =
    ((bs : List Block) × SpellsFollowing kind (Some m) bs s) × ((bs : List Block) × SpellsFollowing kind (Some n) bs t)

abbrev pub NotBothFollow : ResourceKind → ℕ → List ℕ → ℕ → List ℕ → Type 0
NotBothFollow kind m s n t =
    (bs cs : List Block) → SpellsFollowing kind (Some m) bs s → SpellsFollowing kind (Some n) cs t → ⊥

-- octets are blocks of the kind, and so are others, and the answer says whether the first are a part of these
abbrev pub ArePart : ResourceKind → List ℕ → List ℕ → Bool → Type 0
ArePart kind s t answer =
    (bs cs : List Block) × AreBlocks kind bs s × AreBlocks kind cs t × (IsTrue answer ↔ IsSubset bs cs)

-- the one or the other are none
abbrev pub AreNotBoth : ResourceKind → List ℕ → List ℕ → Type 0
AreNotBoth kind s t = (bs cs : List Block) → AreBlocks kind bs s → AreBlocks kind cs t → ⊥

-- the outer octets s and the inner ones t are addresses, and this is the answer
abbrev pub AreIpWithin : List ℕ → List ℕ → Bool → Type 0
AreIpWithin s t answer =
    (outer inner : IpResources) × SpellsIp outer s × SpellsIp inner t × SaysBothWithin inner outer answer

-- there is no answer: where both are addresses, a family has none
abbrev pub HasNoIpAnswer : List ℕ → List ℕ → Type 0
HasNoIpAnswer s t = (outer inner : IpResources) → SpellsIp outer s → SpellsIp inner t → IsUntoldOfEither inner outer

-- the same of AS numbers
abbrev pub AreAsWithin : List ℕ → List ℕ → Bool → Type 0
AreAsWithin s t answer =
    (outer inner : AsResources) × SpellsAs outer s × SpellsAs inner t × (IsUntold inner.numbers outer.numbers → ⊥)
    × SaysWithin inner.numbers outer.numbers answer

abbrev pub HasNoAsAnswer : List ℕ → List ℕ → Type 0
HasNoAsAnswer s t =
    (outer inner : AsResources) → SpellsAs outer s → SpellsAs inner t → IsUntold inner.numbers outer.numbers
