-- The resources that certificates of a path have, in the words of who verifies.
use Rattle.std.proofs.Common.{◌≡◌, ◌∙◌, ◌<◌, ◌≤◌, ◌^◌, ℕ, true, List, [], ◌∷◌, Option, Some, None, inl, inr, refl}
use Rattle.std.proofs.Common.{sym, ap, subst, arith}
use Rattle.rpki.specs.ExtensionValue.{ExtensionParts}
use Rattle.rpki_resources.specs.declared.block.Block.{Block}
use Rattle.rpki_resources.specs.declared.choice.ResourcesChoice.{ResourcesChoice}
use Rattle.rpki_resources.specs.declared.choice.ResourcesChoice.TheVariants.{Missing, Inherit, Blocks}
use Rattle.rpki_resources.specs.declared.choice_view.ChoiceView.{ChoiceView}
use Rattle.rpki_resources.specs.declared.family.AddressFamily.TheVariants.{Ipv4, Ipv6}
use Rattle.rpki_resources.specs.declared.ip_view.IpResourcesView.{IpResourcesView}
use Rattle.rpki_resources.specs.declared.kind.ResourceKind.{ResourceKind}
use Rattle.rpki_resources.specs.declared.kind.ResourceKind.TheVariants.{Addresses, AsNumbers}
use Rattle.rpki_resources.specs.declared.resources.AsResources.{AsResources}
use Rattle.rpki_resources.specs.declared.resources.IpResources.{IpResources}
use Rattle.rpki_resources.specs.Address.{width}
use Rattle.rpki_resources.specs.Blocks.{AreCanonical, AreNumbersOf as AreIn, IsAmong}
use Rattle.rpki_resources.specs.Encoded.{AreBlocksOf, IsBlockOf}
use Rattle.rpki_resources.specs.EncodedResources.{IsOfKind}
use Rattle.rpki_resources.specs.Extension.{SpellsAsResources, SpellsIpResources}
use Rattle.rpki_resources.specs.Kept.{IsChoiceOf}
use Rattle.rpki_resources.specs.Settled.{IsAnchored}
use Rattle.rpki_resources.proofs.KeptLaws.{as_of, ip_of}
use Rattle.rpki_resources.proofs.WritableLaws.{as-writable, ip-writable}
use Rattle.rpki_cert.specs.declared.extension.known_view.KnownView.{KnownView}
use Rattle.rpki_cert.specs.declared.extension.policy.Overclaim.{Overclaim}
use Rattle.rpki_cert.specs.declared.extension.policy.Overclaim.TheVariants.{Refuse, Trim}
use Rattle.rpki_cert.specs.Cert.{CertParts, find}
use Rattle.rpki_cert.specs.ExtensionContent.{SpellsPolicies}
use Rattle.rpki_cert.specs.Known.{Says, certificate_policies}
use Rattle.rpki_cert.specs.KnownView.{AreKnown}
use Rattle.rpki_valid.specs.declared.resource.claim.Claim.{Claim}
use Rattle.rpki_valid.specs.declared.resource.set.ResourceSet.{ResourceSet}
use Rattle.rpki_valid.specs.declared.staleness.Staleness.{Staleness}
use Rattle.rpki_valid.specs.ResourceSet.{AreAddressesOf, AreNumbersOf, HasOwnResources, HasResources, IsClaim}
use Rattle.rpki_valid.specs.ResourceSet.{IsSettledBy}
use Rattle.rpki.specs.Provider.{Checkers}
use Rattle.rpki_valid.specs.Verified.{Holder, IsAuthorityAt, Terms}
use Rattle.rpki_valid.specs.Verified.IsAuthorityAt.{Root, Issued}
use Rattle.jiff.specs.Types.{DateTime}
use Rattle.rpki_c.specs.declared.as_blocks.AsEntry.{AsEntry}
use Rattle.rpki_c.specs.declared.ip_blocks.IpEntry.{IpEntry}
use Rattle.rpki_c.specs.Authority.{HasAnchored, Own, set_of}
use Rattle.rpki_c.specs.Owned.{HasAddresses, HasNumbers}
use Rattle.rpki_c.specs.Path.{ArePassed}
use Rattle.rpki_c.specs.Settling.{ClaimsAddresses, ClaimsNumbers, as_blocks, claimed_addresses, claimed_numbers}
use Rattle.rpki_c.specs.Settling.{family_blocks}
use Rattle.rpki_c.proofs.BlocksBackLaws.{four-is, numbers-are, same-numbers, six-is}
use Rattle.rpki_c.proofs.ResourceLaws.{as-spelled, ip-spelled}

-- ---- blocks of a kind in canonical form

pub record AreSound (kind : ResourceKind) (bs : List Block) : Type 0 where
  pub canonical : AreCanonical bs
  pub fit : AreBlocksOf kind bs

pub record AreAllSound (held : ResourceSet) : Type 0 where
  pub v4 : AreSound (Addresses Ipv4) held.ipv4
  pub v6 : AreSound (Addresses Ipv6) held.ipv6
  pub asn : AreSound AsNumbers held.asn

abbrev limit : ResourceKind → ℕ
limit (Addresses family) = 2 ^ width family
limit AsNumbers = 2 ^ 32

block-below : (kind : ResourceKind) (b : Block) → IsBlockOf kind b → b.high < limit kind
block-below (Addresses family) b h = h.1
block-below AsNumbers b h = h.1

block-of : (kind : ResourceKind) (b : Block) → b.low ≤ b.high → b.high < limit kind → IsBlockOf kind b
block-of (Addresses family) b low high = (low, high)
block-of AsNumbers b low high = (low, high)

among-below : (kind : ResourceKind) (n : ℕ) (bs : List Block) → AreBlocksOf kind bs → IsAmong n bs → n < limit kind
among-below kind n [] h a = absurd a
among-below kind n (b ∷ bs) h (inl a) =
    let top = block-below kind b h.0 in
    omega (arith, a.1, top)
among-below kind n (b ∷ bs) h (inr a) = among-below kind n bs h.1 a

all-of : (kind : ResourceKind) (bs : List Block) → AreCanonical bs → ((n : ℕ) → IsAmong n bs → n < limit kind)
    → AreBlocksOf kind bs
all-of kind [] c h = tt
all-of kind (b ∷ bs) c h =
    (block-of kind b c.0 (h b.high (inl (c.0, omega arith))), all-of kind bs c.2 (λ n a. h n (inr a)))

none-sound : (kind : ResourceKind) → AreSound kind []
none-sound kind = record { canonical = tt; fit = tt }

anchored-sound : (kind : ResourceKind) (v : ResourcesChoice) (own : List Block) → IsOfKind kind v → IsAnchored v own
    → AreSound kind own
anchored-sound kind Missing own f h = subst (AreSound kind) (sym h) (none-sound kind)
anchored-sound kind Inherit own f h = absurd h
anchored-sound kind (Blocks bs) own f h =
    subst (AreSound kind) (sym h) (record { canonical = f.canonical; fit = f.fit })

settled-sound : (kind : ResourceKind) (policy : Overclaim) (v : ResourcesChoice) (issuer own : List Block)
    → IsOfKind kind v → AreSound kind issuer → IsSettledBy policy v issuer own → AreSound kind own
settled-sound kind Refuse Missing issuer own f h s = subst (AreSound kind) (sym s.claimed) (none-sound kind)
settled-sound kind Refuse Inherit issuer own f h s = subst (AreSound kind) (sym s.claimed) h
settled-sound kind Refuse (Blocks bs) issuer own f h s =
    subst (AreSound kind) (sym s.claimed) (record { canonical = f.canonical; fit = f.fit })
settled-sound kind Trim Missing issuer own f h s = subst (AreSound kind) (sym s) (none-sound kind)
settled-sound kind Trim Inherit issuer own f h s = subst (AreSound kind) (sym s) h
settled-sound kind Trim (Blocks bs) issuer own f h s = record {
  canonical = s.canonical;
  fit = all-of kind own s.canonical (λ n a. among-below kind n issuer h.fit ((s.numbers n).0 a).1);
}

-- ---- what is claimed

claimed-addresses : (found : Option ExtensionParts) (said : Option IpResourcesView) (v : IpResources)
    → Says true SpellsIpResources found said → AreAddressesOf v said
    → IsOfKind (Addresses Ipv4) v.v4 × IsOfKind (Addresses Ipv6) v.v6
claimed-addresses found None v h is =
    subst (λ (w : IpResources). IsOfKind (Addresses Ipv4) w.v4 × IsOfKind (Addresses Ipv6) w.v6) (sym is) (tt, tt)
claimed-addresses found (Some x) v h is =
    let w = ip-writable v h.0.content (ip-spelled x v h.0.content h.3 is) in
    (w.v4, w.v6)

claimed-numbers : (found : Option ExtensionParts) (said : Option ChoiceView) (v : AsResources)
    → Says true SpellsAsResources found said → AreNumbersOf v said → IsOfKind AsNumbers v.numbers
claimed-numbers found None v h is = subst (λ (w : AsResources). IsOfKind AsNumbers w.numbers) (sym is) tt
claimed-numbers found (Some x) v h is =
    (as-writable v h.0.content (as-spelled x v.numbers h.0.content h.3 is)).numbers

own-sound : (xs : List ExtensionParts) (own : ResourceSet) → HasOwnResources xs own → AreAllSound own
own-sound xs own h =
    let (said, says, is) = h.claimed.addresses in
    let (named, names, are) = h.claimed.numbers in
    let (f4, f6) = claimed-addresses _ said h.claim.addresses says is in
    let f = claimed-numbers _ named h.claim.numbers names are in
    record {
      v4 = anchored-sound (Addresses Ipv4) h.claim.addresses.v4 own.ipv4 f4 h.anchored.ipv4;
      v6 = anchored-sound (Addresses Ipv6) h.claim.addresses.v6 own.ipv6 f6 h.anchored.ipv6;
      asn = anchored-sound AsNumbers h.claim.numbers.numbers own.asn f h.anchored.asn;
    }

under-sound : (xs : List ExtensionParts) (issuer own : ResourceSet) → AreAllSound issuer → HasResources xs issuer own
    → AreAllSound own
under-sound xs issuer own above h =
    let (said, says, is) = h.claimed.addresses in
    let (named, names, are) = h.claimed.numbers in
    let (f4, f6) = claimed-addresses _ said h.claim.addresses says is in
    let f = claimed-numbers _ named h.claim.numbers names are in
    record {
      v4 = settled-sound (Addresses Ipv4) h.policy h.claim.addresses.v4 issuer.ipv4 own.ipv4 f4 above.v4
          h.settled.ipv4;
      v6 = settled-sound (Addresses Ipv6) h.policy h.claim.addresses.v6 issuer.ipv6 own.ipv6 f6 above.v6
          h.settled.ipv6;
      asn = settled-sound AsNumbers h.policy h.claim.numbers.numbers issuer.asn own.asn f above.asn h.settled.asn;
    }

-- each authority of a path has blocks of its kinds in canonical form
pub authority-sound : (terms : Terms) (asked : Option Staleness) (by : Checkers) (at : DateTime) (n : ℕ) (x : Holder)
    → IsAuthorityAt terms asked by at n x → AreAllSound x.resources
authority-sound terms asked by at n x (Root y h) = own-sound y.cert.tbs.extensions y.resources h.resources
authority-sound terms asked by at n x (Issued k m issuer y h next bound link) =
    under-sound y.cert.tbs.extensions issuer.resources y.resources
    (authority-sound terms asked by at k issuer h) link.resources

-- ---- what is claimed, of both kinds

missing-is : (v : ResourcesChoice) → IsChoiceOf v ChoiceView.Missing → v ≡ Missing
missing-is Missing h = refl
missing-is Inherit h = absurd h
missing-is (Blocks bs) h = absurd h

addresses-are : (said : Option IpResourcesView) (v : IpResources) → IsChoiceOf v.v4 (claimed_addresses said).v4
    → IsChoiceOf v.v6 (claimed_addresses said).v6 → AreAddressesOf v said
addresses-are None v h k =
    ap (λ (y : ResourcesChoice). ip_of y v.v6) (missing-is v.v4 h)
    ∙ ap (λ (y : ResourcesChoice). ip_of Missing y) (missing-is v.v6 k)
addresses-are (Some x) v h k = (h, k)

numbers-are-of : (said : Option ChoiceView) (v : ResourcesChoice) → IsChoiceOf v (claimed_numbers said)
    → AreNumbersOf (as_of v) said
numbers-are-of None v h = ap as_of (missing-is v h)
numbers-are-of (Some x) v h = h

abbrev claim_of : IpResources → ResourcesChoice → Claim
claim_of addresses numbers = record { addresses = addresses; numbers = as_of numbers }

claims-both : (x : CertParts) (a : IpResources) (n : ResourcesChoice) → ClaimsAddresses x a → ClaimsNumbers x n
    → IsClaim x.tbs.extensions (claim_of a n)
claims-both x a n h k = record {
  addresses = (h.said, h.says, addresses-are h.said a h.claimed.0 h.claimed.1);
  numbers = (k.said, k.says, numbers-are-of k.said n k.claimed);
}

pub anchored-own : (x : CertParts) (own : Own) → HasAnchored x own → HasOwnResources x.tbs.extensions (set_of own)
anchored-own x own h = record {
  claim = claim_of h.addresses.claim h.numbers.claim;
  claimed = claims-both x h.addresses.claim h.numbers.claim h.addresses.claimed h.numbers.claimed;
  anchored = record { ipv4 = h.addresses.in_v4; ipv6 = h.addresses.in_v6; asn = h.numbers.anchored };
}

-- ---- what is settled under what the entries say

one-policy : (p q : Overclaim) (r : Option Overclaim) → r ≡ Some p → r ≡ Some q → q ≡ p
one-policy p q r h k =
    let same : Some p ≡ Some q = sym h ∙ k in
    cc

module _ (held : ResourceSet) (sound : AreAllSound held) (ip : List IpEntry) (asn : List AsEntry)
    (passed : ArePassed held ip asn) where
  pub four-held : (over : List Block) → AreIn (family_blocks Ipv4 ip) over
      → over ≡ held.ipv4
  four-held over h =
      same-numbers (family_blocks Ipv4 ip) over held.ipv4 h
      (ap (family_blocks Ipv4) passed.addresses ∙ four-is held.ipv4 held.ipv6 sound.v4.fit) sound.v4.canonical

  pub six-held : (over : List Block) → AreIn (family_blocks Ipv6 ip) over
      → over ≡ held.ipv6
  six-held over h =
      same-numbers (family_blocks Ipv6 ip) over held.ipv6 h
      (ap (family_blocks Ipv6) passed.addresses ∙ six-is held.ipv4 held.ipv6 sound.v6.fit) sound.v6.canonical

  pub numbers-held : (over : List Block) → AreIn (as_blocks asn) over
      → over ≡ held.asn
  numbers-held over h =
      same-numbers (as_blocks asn) over held.asn h (ap as_blocks passed.numbers ∙ numbers-are held.asn)
      sound.asn.canonical

  pub has-resources : (x : CertParts) (known : KnownView) (own : Own) → AreKnown x.tbs.extensions known
      → HasAddresses known x ip own.addresses → HasNumbers known x asn own.numbers
      → HasResources x.tbs.extensions held (set_of own)
  has-resources x known own says h k =
      let four = four-held h.owned.over4 h.owned.held.in_v4 in
      let six = six-held h.owned.over6 h.owned.held.in_v6 in
      let all = numbers-held k.owned.over k.owned.held in
      let one = one-policy h.policy k.policy known.overclaim h.by k.by in
      record {
        policy = h.policy;
        says = subst (Says true SpellsPolicies (find certificate_policies x.tbs.extensions)) h.by says.policy.0;
        claim = claim_of h.claim k.claim;
        claimed = claims-both x h.claim k.claim h.claimed k.claimed;
        settled = record {
          ipv4 = subst (λ (l : List Block). IsSettledBy h.policy h.claim.v4 l own.addresses.v4) four h.owned.settled4;
          ipv6 = subst (λ (l : List Block). IsSettledBy h.policy h.claim.v6 l own.addresses.v6) six h.owned.settled6;
          asn = subst (λ (l : List Block). IsSettledBy h.policy k.claim l own.numbers) all
              (subst (λ (p : Overclaim). IsSettledBy p k.claim k.owned.over own.numbers) one k.owned.settled);
        };
      }
