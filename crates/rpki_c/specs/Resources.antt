-- Resources in octets, and how their blocks are passed and written.
use Rattle.std.specs.Prelude.{◌⊎◌, ◌++◌, ℕ, true, false, List, [], ◌∷◌, map, replicate, ◌≡◌, ◌≤◌, ◌+◌, take, drop}
use Rattle.std.specs.Prelude.{length, Bool, codes}
use Rattle.std.specs.Int.{w32, w128, to_be_bytes, from_be_bytes}
use Rattle.rpki_der.specs.declared.error.DecodeError.{DecodeError}
use Rattle.rpki_resources.specs.declared.family.AddressFamily.{AddressFamily}
use Rattle.rpki_resources.specs.declared.family.AddressFamily.TheVariants.{Ipv4, Ipv6}
use Rattle.rpki_resources.specs.declared.block.Block.{Block}
use Rattle.rpki_resources.specs.declared.choice.ResourcesChoice.{ResourcesChoice}
use Rattle.rpki_resources.specs.declared.resources.IpResources.{IpResources}
use Rattle.rpki_resources.specs.declared.resources.AsResources.{AsResources}
use Rattle.rpki_resources.specs.Extension.{SpellsIpResources, IsIpResourcesFault, SpellsAsResources, IsAsResourcesFault}
use Rattle.rpki_resources.specs.Kept.{SpellsIp, SpellsAs}
use Rattle.rpki_c.specs.declared.ip_blocks.IpEntry.{IpEntry}
use Rattle.rpki_c.specs.declared.as_blocks.AsEntry.{AsEntry}
use Rattle.rpki_c.specs.Filled.{IsFilled, IsUnfilled}
use Rattle.rpki_c.specs.Whole.{NeverMemory, IsRefused}
use Rattle.rpki_resources.specs.declared.choice_view.ChoiceView.{ChoiceView}
use Rattle.rpki_resources.specs.Compared.{IsUntold, SaysWithin, SaysBothWithin, IsUntoldOfEither}
use Rattle.rpki_c.specs.Status.{no_answer, second, content}
use Rattle.rpki_resources.specs.declared.ip_text.IpBlock.{IpBlock}
use Rattle.rpki_resources.specs.declared.as_text.AsBlock.{AsBlock}
use Rattle.rpki_resources.specs.Text.{IsBlockOfFamily, IsIpBlockOf, ip_block_text, IsAsBlockOf, as_block_text}
use Rattle.rpki_c.specs.Stored.{IsStored}
use Rattle.rpki_c.specs.Uri.{IsUnwritten}

-- ---- What a status says of the contents of the two extensions of resources (RFC 3779 2.2.3, 3.2.3; RFC 6487 4.8.10,
-- 4.8.11), and how their blocks are passed

-- the error of a reader of the addresses and nothing else, which allocates nothing
abbrev pub IsWholeIpFault : List ℕ → DecodeError → Type 0
IsWholeIpFault = NeverMemory SpellsIpResources IsIpResourcesFault

-- the same of AS numbers
abbrev pub IsWholeAsFault : List ℕ → DecodeError → Type 0
IsWholeAsFault = NeverMemory SpellsAsResources IsAsResourcesFault

-- how resources of one kind are passed: an entry for each block, or one that says that they are the issuer's
abbrev pub choice_entries : {E : Type 0} → E → (Block → E) → ResourcesChoice → List E
choice_entries inherited entry ResourcesChoice.Missing = []
choice_entries inherited entry ResourcesChoice.Inherit = inherited ∷ []
choice_entries inherited entry (ResourcesChoice.Blocks bs) = map entry bs

-- ---- addresses

-- how a family is passed: as its version of IP
abbrev pub family_number : AddressFamily → ℕ
family_number Ipv4 = 4
family_number Ipv6 = 6

-- the octets of an address, the most significant first; after the four of IP version 4 are zeros
abbrev pub address_octets : AddressFamily → ℕ → List ℕ
address_octets Ipv4 n = to_be_bytes w32 n ++ replicate 12 0
address_octets Ipv6 n = to_be_bytes w128 n

-- how a block of addresses is passed
abbrev pub ip_entry : AddressFamily → Block → IpEntry
ip_entry family b = record {
  low = address_octets family b.low;
  high = address_octets family b.high;
  family = family_number family;
  is_inherited = false;
}

-- how it is passed that the addresses of a family are those of the issuer
abbrev pub inherited_ip : AddressFamily → IpEntry
inherited_ip family = record {
  low = replicate 16 0;
  high = replicate 16 0;
  family = family_number family;
  is_inherited = true;
}

-- how the addresses of a family are passed
abbrev pub family_entries : AddressFamily → ResourcesChoice → List IpEntry
family_entries family = choice_entries (inherited_ip family) (ip_entry family)

-- how addresses are passed: those of IP version 4 first
abbrev pub ip_entries : IpResources → List IpEntry
ip_entries x = family_entries Ipv4 x.v4 ++ family_entries Ipv6 x.v6

-- Status 0 or 9: the octets are addresses, and these are filled in. Else the number of the error, the leftmost, and
-- nothing is written.
abbrev pub IsIpFilled : List ℕ → ℕ → List IpEntry → List IpEntry → ℕ → ℕ → Type 0
IsIpFilled s status old new before after =
    ((x : IpResources) × SpellsIp x s × IsFilled (ip_entries x) status old new after)
    ⊎ (IsRefused SpellsIpResources IsWholeIpFault s status × IsUnfilled old new before after)

-- ---- AS numbers

-- how a block of AS numbers is passed
abbrev pub as_entry : Block → AsEntry
as_entry b = record { low = b.low; high = b.high; is_inherited = false }

-- how it is passed that the AS numbers are those of the issuer
abbrev pub inherited_as : AsEntry
inherited_as = record { low = 0; high = 0; is_inherited = true }

-- how AS numbers are passed
abbrev pub as_entries : ResourcesChoice → List AsEntry
as_entries = choice_entries inherited_as as_entry

-- the same as IsIpFilled, of AS numbers
abbrev pub IsAsFilled : List ℕ → ℕ → List AsEntry → List AsEntry → ℕ → ℕ → Type 0
IsAsFilled s status old new before after =
    ((x : AsResources) × SpellsAs x s × IsFilled (as_entries x.numbers) status old new after)
    ⊎ (IsRefused SpellsAsResources IsWholeAsFault s status × IsUnfilled old new before after)

-- ---- Entries that are written from a place in an array on, of resources in place

-- how many entries are passed: one for each block, or one that says that they are those of the issuer
abbrev pub view_count : ChoiceView → ℕ
view_count ChoiceView.Missing = 0
view_count ChoiceView.Inherit = 1
view_count (ChoiceView.Blocks x) = x.count

-- the entries are there, and all else in the array is as it was
pub record IsFilledAt {E : Type 0} (from : ℕ) (entries old new : List E) : Type 0 where
  pub room : from + length entries ≤ length old
  pub array : new ≡ take from old ++ (entries ++ drop (from + length entries) old)

-- ---- What a status says of two contents of an extension of resources, where the one may encompass the other

-- the status is that much more than the number of the error
pub record IsSecondRefused {V : Type 0} (G : V → List ℕ → Type 0) (K : List ℕ → DecodeError → Type 0)
    (s : List ℕ) (status : ℕ) : Type 0 where
  pub first : ℕ
  pub number : status ≡ first + second
  pub refused : IsRefused G K s first

-- Of the outer octets s and the inner ones t, status 0: both are resources, and this is the answer. 10: both are, and
-- have none. Else: the error of the outer ones; where these are resources, that of the inner ones. Unless the status is
-- 0, nothing was written.
abbrev pub IsCompared : {Z V : Type 0} → (Z → List ℕ → Type 0) → (V → List ℕ → Type 0)
    → (List ℕ → DecodeError → Type 0) → (Z → Z → Bool → Type 0) → (Z → Z → Type 0) → List ℕ → List ℕ → ℕ → Bool → Bool
    → Type 0
IsCompared {Z} kept G K says untold s t status old new =
    ((outer inner : Z) × kept outer s × kept inner t
    × (((status ≡ 0) × says inner outer new) ⊎ ((status ≡ no_answer) × untold inner outer × (new ≡ old))))
    ⊎ (IsRefused G K s status × (new ≡ old))
    ⊎ (((outer : Z) × kept outer s) × IsSecondRefused G K t status × (new ≡ old))

-- of addresses: of each family
abbrev pub IsIpCompared : List ℕ → List ℕ → ℕ → Bool → Bool → Type 0
IsIpCompared = IsCompared SpellsIp SpellsIpResources IsWholeIpFault SaysBothWithin IsUntoldOfEither

-- of AS numbers
abbrev pub AreUntold : AsResources → AsResources → Type 0
AreUntold inner outer = IsUntold inner.numbers outer.numbers

abbrev pub SayWithin : AsResources → AsResources → Bool → Type 0
SayWithin inner outer answer = (AreUntold inner outer → ⊥) × SaysWithin inner.numbers outer.numbers answer

abbrev pub IsAsCompared : List ℕ → List ℕ → ℕ → Bool → Bool → Type 0
IsAsCompared = IsCompared SpellsAs SpellsAsResources IsWholeAsFault SayWithin AreUntold

-- ---- What a status says of the text of a block

-- the number of an address: that of the first four octets, or of all
abbrev pub address_number : AddressFamily → List ℕ → ℕ
address_number AddressFamily.Ipv4 octets = from_be_bytes w32 (take 4 octets)
address_number AddressFamily.Ipv6 octets = from_be_bytes w128 octets

-- the numbers of an entry
abbrev pub numbers_of : AddressFamily → IpEntry → Block
numbers_of family p = record { low = address_number family p.low; high = address_number family p.high }

-- the entry is of this family, and has addresses of it, one at least
pub record IsIpListed (p : IpEntry) (family : AddressFamily) : Type 0 where
  pub named : p.family ≡ family_number family
  pub block : IsBlockOfFamily family (numbers_of family p)

-- the text of the entry's block
pub record IsIpText (p : IpEntry) (family : AddressFamily) (b : IpBlock) : Type 0 where
  pub listed : IsIpListed p family
  pub block : IsIpBlockOf family b (numbers_of family p)

-- Where the entry says that addresses are those of the issuer, `inherit` is stored. Else, where it is a block, its text
-- is: that of a prefix, or of a range that isn't one. Else the status is 5, and nothing was written.
abbrev pub IsIpTextStored : IpEntry → ℕ → List ℕ → List ℕ → ℕ → ℕ → Type 0
IsIpTextStored p status old new before after =
    ((p.is_inherited ≡ true) × IsStored (codes "inherit") status old new after)
    ⊎ ((p.is_inherited ≡ false) × ((family : AddressFamily) × (b : IpBlock) × IsIpText p family b
    × IsStored (ip_block_text b) status old new after))
    ⊎ ((p.is_inherited ≡ false) × ((family : AddressFamily) → IsIpListed p family → ⊥) × (status ≡ content)
    × IsUnwritten old new before after)

-- the numbers of an entry
abbrev pub as_numbers_of : AsEntry → Block
as_numbers_of p = record { low = p.low; high = p.high }

-- the same of AS numbers: the text of one number, or of a range
abbrev pub IsAsTextStored : AsEntry → ℕ → List ℕ → List ℕ → ℕ → ℕ → Type 0
IsAsTextStored p status old new before after =
    ((p.is_inherited ≡ true) × IsStored (codes "inherit") status old new after)
    ⊎ ((p.is_inherited ≡ false) × ((b : AsBlock) × IsAsBlockOf b (as_numbers_of p)
    × IsStored (as_block_text b) status old new after))
    ⊎ ((p.is_inherited ≡ false) × ((b : AsBlock) → IsAsBlockOf b (as_numbers_of p) → ⊥) × (status ≡ content)
    × IsUnwritten old new before after)
