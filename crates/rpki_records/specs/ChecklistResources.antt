-- The resources of a signed checklist (RFC 9323 4.2): as the extensions of certificates have them (RFC 3779), but never
-- those of the issuer.
use Rattle.std.specs.Prelude.{◌≡◌, ◌⊎◌, ◌||◌, ℕ, Bool, true, false, List, Option, None, Some}
use Rattle.rpki_resources.specs.declared.choice_view.ChoiceView.{ChoiceView}
use Rattle.rpki_resources.specs.declared.choice_view.ChoiceView.TheVariants.{Missing, Inherit, Blocks}
use Rattle.rpki_resources.specs.declared.ip_view.IpResourcesView.{IpResourcesView}
use Rattle.rpki_records.specs.declared.resources.ResourceBlock.{ResourceBlock}
use Rattle.rpki_records.specs.Checklist.{FoundChecklist}
use Rattle.rpki_resources.specs.Extension.{SpellsAsResources, SpellsIpResources, families}

-- those of the issuer
abbrev pub is_inherited : ChoiceView → Bool
is_inherited Missing = false
is_inherited Inherit = true
is_inherited (Blocks x) = false

abbrev pub is_any_inherited : IpResourcesView → Bool
is_any_inherited x = is_inherited x.v4 || is_inherited x.v6

-- G spells s as this value alone, which isn't inherited
pub record IsOwn {V : Type 0} (G : V → List ℕ → Type 0) (inherited : V → Bool) (s : List ℕ) (v : V) : Type 0 where
  pub spelled : G v s
  pub only : (w : V) → G w s → w ≡ v
  pub own : inherited v ≡ false

-- what is under a tag is this value; where the tag isn't there it is the one that says so
abbrev pub IsUnder : {V : Type 0} → (V → List ℕ → Type 0) → (V → Bool) → V → Option (List ℕ) → V → Type 0
IsUnder G inherited missing None v = v ≡ missing
IsUnder G inherited missing (Some s) v = IsOwn G inherited s v

-- the tag is there, and nothing else than what is inherited is under it
abbrev pub IsNotUnder : {V : Type 0} → (V → List ℕ → Type 0) → (V → Bool) → Option (List ℕ) → Type 0
IsNotUnder G inherited None = ⊥
IsNotUnder {V} G inherited (Some s) = (v : V) → G v s → inherited v ≡ true

-- AS numbers (4.2.1), and IP addresses of both families (4.2.2)
abbrev pub AreNumbers : Option (List ℕ) → ChoiceView → Type 0
AreNumbers = IsUnder SpellsAsResources is_inherited Missing

abbrev pub AreNoNumbers : Option (List ℕ) → Type 0
AreNoNumbers = IsNotUnder SpellsAsResources is_inherited

abbrev pub AreAddresses : Option (List ℕ) → IpResourcesView → Type 0
AreAddresses = IsUnder SpellsIpResources is_any_inherited (families Missing Missing)

abbrev pub AreNoAddresses : Option (List ℕ) → Type 0
AreNoAddresses = IsNotUnder SpellsIpResources is_any_inherited

-- both; or one of them isn't there
pub record AreResources (x : FoundChecklist) (b : ResourceBlock) : Type 0 where
  pub numbers : AreNumbers x.numbers b.numbers
  pub addresses : AreAddresses x.addresses b.addresses

abbrev pub AreNoResources : FoundChecklist → Type 0
AreNoResources x = AreNoNumbers x.numbers ⊎ AreNoAddresses x.addresses
