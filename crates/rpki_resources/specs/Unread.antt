-- Resources in place whose blocks were not read yet (RFC 3779 2.2.3, 3.2.3).
use Rattle.std.specs.Prelude.{◌≡◌, ◌↔◌, ℕ, Bool, true, List}
use Rattle.rpki_der.specs.Cursor.{left}
use Rattle.rpki_der.specs.TagName.{TagName}
use Rattle.rpki_der.specs.Prelude.{SpellsContents, SpellsFor}
use Rattle.rpki_resources.specs.declared.kind.ResourceKind.{ResourceKind}
use Rattle.rpki_resources.specs.declared.kind.ResourceKind.TheVariants.{Addresses}
use Rattle.rpki_resources.specs.declared.family.AddressFamily.{AddressFamily}
use Rattle.rpki_resources.specs.declared.family.AddressFamily.TheVariants.{Ipv4, Ipv6}
use Rattle.rpki_resources.specs.declared.choice.ResourcesChoice.{ResourcesChoice}
use Rattle.rpki_resources.specs.declared.choice.ResourcesChoice.TheVariants.{Missing, Inherit, Blocks}
use Rattle.rpki_resources.specs.declared.choice_view.ChoiceView.{ChoiceView}
use Rattle.rpki_resources.specs.declared.resources.IpResources.{IpResources}
use Rattle.rpki_resources.specs.declared.frames.Unread.{Unread}
use Rattle.rpki_resources.specs.declared.frames.Unread.TheVariants.{Missing as NothingFound, Inherit as InheritFound}
use Rattle.rpki_resources.specs.declared.frames.Unread.TheVariants.{Listed}
use Rattle.rpki_resources.specs.declared.frames.UnreadIp.{UnreadIp}
use Rattle.rpki_resources.specs.Listed.{AreBlocks}
use Rattle.rpki_resources.specs.Extension.{SpellsChoice, family_parts, SpellsNamed, AreFamilies}
use Rattle.rpki_resources.specs.Kept.{IsChoiceOf, AreIpResourcesOf}
use Rattle.rpki_resources.specs.Compared.{IsUntold, SaysWithin}

-- what was found is these resources: a list is, where its octets are the blocks
abbrev pub IsUnread : ResourceKind → Unread → ResourcesChoice → Type 0
IsUnread kind NothingFound Missing = Unit {0}
IsUnread kind NothingFound Inherit = ⊥
IsUnread kind NothingFound (Blocks bs) = ⊥
IsUnread kind InheritFound Missing = ⊥
IsUnread kind InheritFound Inherit = Unit {0}
IsUnread kind InheritFound (Blocks bs) = ⊥
IsUnread kind (Listed c) Missing = ⊥
IsUnread kind (Listed c) Inherit = ⊥
IsUnread kind (Listed c) (Blocks bs) = AreBlocks kind bs (left c)

abbrev pub AreUnreadIp : UnreadIp → IpResources → Type 0
AreUnreadIp x v = IsUnread (Addresses Ipv4) x.v4 v.v4 × IsUnread (Addresses Ipv6) x.v6 v.v6

-- s is a constructed value of the tag, with these contents and no others
abbrev pub IsAround : TagName → List ℕ → List ℕ → Type 0
IsAround t s c = SpellsContents t true c s × ((d : List ℕ) → SpellsContents t true d s → d ≡ c)

-- all of c is a choice: these resources
abbrev pub SpellsKept : ResourceKind → ResourcesChoice → List ℕ → Type 0
SpellsKept kind = SpellsFor (SpellsChoice kind) IsChoiceOf

-- all of c is the name of a family and these resources
abbrev pub AreNamedKept : AddressFamily → ResourcesChoice → List ℕ → Type 0
AreNamedKept f v c = (x : ChoiceView) × family_parts.spells (f, x) c × IsChoiceOf v x

-- all of s is a name and a choice: this family, and the resources that were found
abbrev pub IsNamedUnread : List ℕ → AddressFamily × Unread → Type 0
IsNamedUnread s x =
    (f : AddressFamily) (v : ResourcesChoice) → AreNamedKept f v s
    ↔ ((x.0 ≡ f) × IsUnread (Addresses x.0) x.1 v)

-- the same in a SEQUENCE
abbrev pub SpellsNamedKept : AddressFamily → ResourcesChoice → List ℕ → Type 0
SpellsNamedKept f v c = (x : ChoiceView) × SpellsNamed (f, x) c × IsChoiceOf v x

-- what was found are the resources of this family that s spells
abbrev pub IsUnreadOf : AddressFamily → List ℕ → Unread → Type 0
IsUnreadOf f s u = (v : ResourcesChoice) → SpellsNamedKept f v s ↔ IsUnread (Addresses f) u v

-- all of c is one family or both: these resources
abbrev pub AreFamiliesKept : IpResources → List ℕ → Type 0
AreFamiliesKept = SpellsFor AreFamilies AreIpResourcesOf

-- ---- two that were found

-- both are resources, of which this is the answer
abbrev pub AreWithin : ResourceKind → Unread → Unread → Bool → Type 0
AreWithin kind inner outer answer =
    (v w : ResourcesChoice) × IsUnread kind inner v × IsUnread kind outer w × (IsUntold v w → ⊥) × SaysWithin v w answer

-- there is no answer
abbrev pub HasNoAnswer : ResourceKind → Unread → Unread → Type 0
HasNoAnswer kind inner outer = (v w : ResourcesChoice) → IsUnread kind inner v → IsUnread kind outer w → IsUntold v w
