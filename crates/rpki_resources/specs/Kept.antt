-- Resources that are kept, beside those that were read in place.
use Rattle.std.specs.Prelude.{◌≡◌, ℕ, List}
use Rattle.rpki_der.specs.Prelude.{Format, kept}
use Rattle.rpki_resources.specs.declared.choice.ResourcesChoice.{ResourcesChoice}
use Rattle.rpki_resources.specs.declared.choice.ResourcesChoice.TheVariants.{Missing as NoneKept}
use Rattle.rpki_resources.specs.declared.choice.ResourcesChoice.TheVariants.{Inherit as InheritKept}
use Rattle.rpki_resources.specs.declared.choice.ResourcesChoice.TheVariants.{Blocks as BlocksKept}
use Rattle.rpki_resources.specs.declared.choice_view.ChoiceView.{ChoiceView}
use Rattle.rpki_resources.specs.declared.choice_view.ChoiceView.TheVariants.{Missing, Inherit, Blocks}
use Rattle.rpki_resources.specs.declared.resources.IpResources.{IpResources}
use Rattle.rpki_resources.specs.declared.resources.AsResources.{AsResources}
use Rattle.rpki_resources.specs.declared.ip_view.IpResourcesView.{IpResourcesView}
use Rattle.rpki_resources.specs.Composing.{standing_for}
use Rattle.rpki_resources.specs.InPlace.{Holds}
use Rattle.rpki_resources.specs.Extension.{ip_resources, as_resources}

-- the choice that is kept says what the other says, and lists the blocks that it holds
abbrev pub IsChoiceOf : ResourcesChoice → ChoiceView → Type 0
IsChoiceOf NoneKept Missing = Unit {0}
IsChoiceOf NoneKept Inherit = ⊥
IsChoiceOf NoneKept (Blocks x) = ⊥
IsChoiceOf InheritKept Missing = ⊥
IsChoiceOf InheritKept Inherit = Unit {0}
IsChoiceOf InheritKept (Blocks x) = ⊥
IsChoiceOf (BlocksKept bs) Missing = ⊥
IsChoiceOf (BlocksKept bs) Inherit = ⊥
IsChoiceOf (BlocksKept bs) (Blocks x) = Holds x bs

-- and it alone does
abbrev pub IsOnlyChoiceOf : ResourcesChoice → ChoiceView → Type 0
IsOnlyChoiceOf v x = IsChoiceOf v x × ((w : ResourcesChoice) → IsChoiceOf w x → w ≡ v)

-- it lists blocks; to keep any other choice takes no memory
abbrev pub ListsBlocks : ChoiceView → Type 0
ListsBlocks Missing = ⊥
ListsBlocks Inherit = ⊥
ListsBlocks (Blocks x) = Unit {0}

abbrev pub AreIpResourcesOf : IpResources → IpResourcesView → Type 0
AreIpResourcesOf v x = IsChoiceOf v.v4 x.v4 × IsChoiceOf v.v6 x.v6

abbrev pub AreAsResourcesOf : AsResources → ChoiceView → Type 0
AreAsResourcesOf v x = IsChoiceOf v.numbers x

-- the contents of the extension of IP address blocks; allocation fails only where resources are there
abbrev pub kept_ip : Format IpResources
kept_ip = standing_for AreIpResourcesOf (kept ip_resources)

abbrev pub SpellsIp : IpResources → List ℕ → Type 0
SpellsIp = kept_ip.spells

-- the contents of the extension of AS identifiers
abbrev pub kept_as : Format AsResources
kept_as = standing_for AreAsResourcesOf (kept as_resources)

abbrev pub SpellsAs : AsResources → List ℕ → Type 0
SpellsAs = kept_as.spells
