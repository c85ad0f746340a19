-- What a certificate claims of resources, and what of it is settled.
use Rattle.std.proofs.Common.{◌≡◌, inl, inr, true, List, [], ◌∷◌, Option, refl, Some, ap, ◌∙◌, subst, sym}
use Rattle.rpki_der.proofs.ReadingLaws.{is-out, at-memory}
use Rattle.rpki.specs.ExtensionValue.{ExtensionParts}
use Rattle.rpki.specs.declared.repository.error.ValidationError.{ValidationError}
use Rattle.rpki.specs.declared.repository.error.ValidationError.TheVariants.{Decoding, Inspection, Verification}
use Rattle.rpki_resources.specs.declared.block.Block.{Block}
use Rattle.rpki_resources.specs.declared.choice.ResourcesChoice.{ResourcesChoice}
use Rattle.rpki_resources.specs.declared.choice.ResourcesChoice.TheVariants.{Missing, Inherit, Blocks}
use Rattle.rpki_resources.specs.declared.resources.IpResources.{IpResources}
use Rattle.rpki_resources.specs.declared.resources.AsResources.{AsResources}
use Rattle.rpki_resources.specs.declared.choice_view.ChoiceView.{ChoiceView}
use Rattle.rpki_resources.specs.declared.ip_view.IpResourcesView.{IpResourcesView}
use Rattle.rpki_resources.specs.Blocks.{IsSubset}
use Rattle.rpki_resources.specs.declared.settlement.SettleError.{SettleError}
use Rattle.rpki_resources.specs.declared.settlement.SettleError.TheVariants.{Overclaim as Overclaims, Inherits}
use Rattle.rpki_resources.specs.declared.settlement.SettleError.TheVariants.{OutOfMemory}
use Rattle.rpki_resources.specs.Settled.{IsWithin, IsSettled, IsAnchored}
use Rattle.std.specs.Prelude.{◌↔◌, Result, Ok, Err, IfErr}
use Rattle.std.proofs.lemmas.Bool.{false≢true}
use Rattle.rpki_resources.specs.Extension.{SpellsIpResources, SpellsAsResources}
use Rattle.rpki_resources.proofs.SettledLaws.{down-within}
use Rattle.rpki_cert.specs.declared.extension.policy.Overclaim.{Overclaim}
use Rattle.rpki_cert.specs.declared.extension.policy.Overclaim.TheVariants.{Refuse, Trim}
use Rattle.rpki_valid.specs.declared.resource.claim.Claim.{Claim}
use Rattle.rpki_valid.specs.declared.resource.set.ResourceSet.{ResourceSet}
use Rattle.rpki_cert.specs.Cert.{find}
use Rattle.rpki_cert.specs.ExtensionContent.{SpellsPolicies}
use Rattle.rpki_cert.specs.Known.{certificate_policies, UnlessNoMemory, SaysOnly}
use Rattle.rpki_cert.specs.ResourceExtensions.{addresses_of, numbers_of}
use Rattle.rpki_valid.specs.ResourceSet.{AreAddressesOf, AreNumbersOf, IsClaim, IsOnlyClaim, IsKindUnsettled}
use Rattle.rpki_valid.specs.ResourceSet.{IsSettledBy, AreSettledBy, HasResources, IsOut, AreWithin, AreAnchored}
use Rattle.rpki_valid.specs.ResourceSet.{HasOwnResources}

-- ---- allocation failure

pub out-unless : (e : ValidationError) (P : Type 0) → IsOut e → UnlessNoMemory e P
out-unless (Decoding e) P h = at-memory e P (is-out e h)
out-unless (Inspection e) P h = absurd (false≢true h)
out-unless (Verification e) P h = absurd (false≢true h)

-- ---- refused

refused-kind : (choice : ResourcesChoice) (issuer : List Block) (e : SettleError)
    → (e ≡ Overclaims) ↔ (IsWithin choice issuer → ⊥) → (e ≡ Inherits → ⊥) → IsKindUnsettled (IsSettled choice issuer) e
refused-kind choice issuer Overclaims same other = λ x h. same.0 refl h.within
refused-kind choice issuer Inherits same other = other refl
refused-kind choice issuer OutOfMemory same other = tt

pub refused-result : (choice : ResourcesChoice) (issuer : List Block) (r : Result (List Block) SettleError)
    → IfErr r (λ e. (e ≡ Overclaims) ↔ (IsWithin choice issuer → ⊥)) → IfErr r (λ e. e ≡ Inherits → ⊥)
    → IfErr r (λ e. IsKindUnsettled (IsSettled choice issuer) e)
refused-result choice issuer (Ok x) same other = tt
refused-result choice issuer (Err e) same other = refused-kind choice issuer e same other

-- ---- within

kind-within : (policy : Overclaim) (choice : ResourcesChoice) (issuer subject : List Block)
    → IsSettledBy policy choice issuer subject → IsSubset subject issuer
kind-within Refuse choice issuer subject h = down-within issuer subject (choice ∷ []) (subject, inl h, refl)
kind-within Trim choice issuer subject h = down-within issuer subject (choice ∷ []) (subject, inr h, refl)

pub resources-within : (xs : List ExtensionParts) (issuer subject : ResourceSet) → HasResources xs issuer subject
    → AreWithin subject issuer
resources-within xs issuer subject h = record {
  ipv4 = kind-within h.policy h.claim.addresses.v4 issuer.ipv4 subject.ipv4 h.settled.ipv4;
  ipv6 = kind-within h.policy h.claim.addresses.v6 issuer.ipv6 subject.ipv6 h.settled.ipv6;
  asn = kind-within h.policy h.claim.numbers.numbers issuer.asn subject.asn h.settled.asn;
}

pub within-itself : (x : ResourceSet) → AreWithin x x
within-itself x = record { ipv4 = λ n h. h; ipv6 = λ n h. h; asn = λ n h. h }

pub within-through : (x y z : ResourceSet) → AreWithin x y → AreWithin y z → AreWithin x z
within-through x y z h k = record {
  ipv4 = λ n a. k.ipv4 n (h.ipv4 n a);
  ipv6 = λ n a. k.ipv6 n (h.ipv6 n a);
  asn =
      λ n a. k.asn n (h.asn n a);
}

-- ---- what is claimed

abbrev claim_of : IpResources → AsResources → Claim
claim_of addresses numbers = record { addresses = addresses; numbers = numbers }

module _ (xs : List ExtensionParts) (v : Option IpResourcesView) (w : Option ChoiceView) (a : IpResources)
    (n : AsResources)
    (said : SaysOnly true SpellsIpResources (addresses_of xs) v) (kept : AreAddressesOf a v)
    (only : (b : IpResources) → AreAddressesOf b v → b ≡ a)
    (told : SaysOnly true SpellsAsResources (numbers_of xs) w) (listed : AreNumbersOf n w)
    (alone : (m : AsResources) → AreNumbersOf m w → m ≡ n) where
  one : (d : Claim) → IsClaim xs d → d ≡ claim_of a n
  one d h =
      let b : d.addresses ≡ a = only d.addresses
      (subst (AreAddressesOf d.addresses) (said.1 h.addresses.0 h.addresses.1) h.addresses.2) in
      let m : d.numbers ≡ n = alone d.numbers
      (subst (AreNumbersOf d.numbers) (told.1 h.numbers.0 h.numbers.1) h.numbers.2) in
      ap (λ (y : IpResources). claim_of y d.numbers) b ∙ ap (λ (y : AsResources). claim_of a y) m

  pub only-claim : IsOnlyClaim xs (claim_of a n)
  only-claim = (record { addresses = (v, said.0, kept); numbers = (w, told.0, listed) }, one)

-- the policy and the claim of a certificate are one, so that what they don't settle nothing settles
module _ (xs : List ExtensionParts) (policy : Overclaim) (c : Claim)
    (said : SaysOnly true SpellsPolicies (find certificate_policies xs) (Some policy)) (claimed : IsOnlyClaim xs c)
    (issuer : ResourceSet) where
  one-some : (p q : Overclaim) → ◌≡◌ {A = Option Overclaim} (Some p) (Some q) → p ≡ q
  one-some p q e = cc

  pub settled-alone : (r : ResourceSet) → HasResources xs issuer r → AreSettledBy policy c issuer r
  settled-alone r h =
      let p : h.policy ≡ policy = one-some h.policy policy (said.1 (Some h.policy) h.says) in
      let d : h.claim ≡ c = claimed.1 h.claim h.claimed in
      subst (λ (q : Overclaim). AreSettledBy q c issuer r) p
      (subst (λ (k : Claim). AreSettledBy h.policy k issuer r) d h.settled)

-- ---- of its own

same-own : (choice : ResourcesChoice) (a b : List Block) → IsAnchored choice a → IsAnchored choice b → b ≡ a
same-own Missing a b h k = k ∙ sym h
same-own Inherit a b h k = absurd h
same-own (Blocks bs) a b h k = k ∙ sym h

abbrev set_of : List Block → List Block → List Block → ResourceSet
set_of ipv4 ipv6 asn = record { ipv4 = ipv4; ipv6 = ipv6; asn = asn }

same-set : (v w : ResourceSet) → w.ipv4 ≡ v.ipv4 → w.ipv6 ≡ v.ipv6 → w.asn ≡ v.asn → w ≡ v
same-set v w p q r = let e : set_of w.ipv4 w.ipv6 w.asn ≡ set_of v.ipv4 v.ipv6 v.asn = rw (p, q, r) refl in e

-- what a certificate lists is one set
pub one-own : (xs : List ExtensionParts) (c : Claim) (v w : ResourceSet) → IsOnlyClaim xs c → AreAnchored c v
    → HasOwnResources xs w → w ≡ v
one-own xs c v w only h k =
    let anchored = subst (λ (d : Claim). AreAnchored d w) (only.1 k.claim k.claimed) k.anchored in
    same-set v w (same-own c.addresses.v4 v.ipv4 w.ipv4 h.ipv4 anchored.ipv4)
    (same-own c.addresses.v6 v.ipv6 w.ipv6 h.ipv6 anchored.ipv6)
    (same-own c.numbers.numbers v.asn w.asn h.asn anchored.asn)
