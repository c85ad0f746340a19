-- A certificate has one set of resources under its issuer's, and a trust anchor one of its own.
use Rattle.std.proofs.Common.{◌≡◌, ℕ, Bool, true, List, Option, Some, None, refl, ap, sym, subst}
use Rattle.std.proofs.Common.{◌∙◌}
use Rattle.rpki_der.specs.Prelude.{sequence, oid}
use Rattle.rpki_der.proofs.OneFormatLaws.{leaf-lawful}
use Rattle.rpki.specs.ExtensionValue.{ExtensionParts}
use Rattle.rpki_resources.specs.declared.block.Block.{Block}
use Rattle.rpki_resources.specs.declared.choice.ResourcesChoice.{ResourcesChoice}
use Rattle.rpki_resources.specs.declared.choice.ResourcesChoice.TheVariants.{Missing, Inherit, Blocks}
use Rattle.rpki_resources.specs.declared.resources.IpResources.{IpResources}
use Rattle.rpki_resources.specs.declared.resources.AsResources.{AsResources}
use Rattle.rpki_resources.specs.declared.choice_view.ChoiceView.{ChoiceView}
use Rattle.rpki_resources.specs.declared.choice_view.ChoiceView.TheVariants.{Missing as NoneThere}
use Rattle.rpki_resources.specs.declared.choice_view.ChoiceView.TheVariants.{Inherit as InheritThere}
use Rattle.rpki_resources.specs.declared.choice_view.ChoiceView.TheVariants.{Blocks as BlocksThere}
use Rattle.rpki_resources.specs.declared.ip_view.IpResourcesView.{IpResourcesView}
use Rattle.rpki_resources.specs.Extension.{SpellsIpResources, SpellsAsResources}
use Rattle.rpki_resources.specs.Kept.{IsChoiceOf}
use Rattle.rpki_resources.specs.Settled.{IsTrimmed, IsAnchored}
use Rattle.rpki_resources.proofs.BlocksLaws.{one-list}
use Rattle.rpki_cert.specs.declared.extension.policy.Overclaim.{Overclaim}
use Rattle.rpki_cert.specs.declared.extension.policy.Overclaim.TheVariants.{Refuse, Trim}
use Rattle.rpki_cert.specs.ExtensionContent.{IsPolicyName, policy_name, optional_qualifiers, policy_parts, policy_value}
use Rattle.rpki_cert.specs.ExtensionContent.{SpellsPolicies}
use Rattle.rpki_cert.specs.Known.{Says}
use Rattle.rpki_contents.proofs.OneReadingLaws.{IsOneFront, IsOneWhole, both-one, around-one}
use Rattle.rpki_valid.specs.declared.resource.claim.Claim.{Claim}
use Rattle.rpki_valid.specs.declared.resource.set.ResourceSet.{ResourceSet}
use Rattle.rpki_valid.specs.ResourceSet.{AreAddressesOf, AreNumbersOf, IsClaim, IsSettledBy, AreSettledBy, AreAnchored}
use Rattle.rpki_valid.specs.ResourceSet.{HasResources, HasOwnResources}
use Rattle.rpki_validation.proofs.OneResourceLaws.{holds-one, numbers-one, addresses-one, whole-one}

-- ---- the policy

same-policy : (c : List ℕ) (p q : Overclaim) → IsPolicyName p c → IsPolicyName q c → p ≡ q
same-policy c Refuse Refuse h k = refl
same-policy c Refuse Trim h k = absurd (cc)
same-policy c Trim Refuse h k = absurd (cc)
same-policy c Trim Trim h k = refl

name-one : IsOneFront policy_name.spells
name-one = (leaf-lawful oid IsPolicyName same-policy).one

policy-parts-one : IsOneWhole policy_parts.spells
policy-parts-one = both-one policy_name.spells optional_qualifiers.spells name-one (λ s v w h k. refl)

policy-value-one : IsOneFront policy_value.spells
policy-value-one = around-one sequence policy_parts.spells policy-parts-one

policies-one : IsOneWhole SpellsPolicies
policies-one s p q h k =
    ap (λ (x : Overclaim × Unit {0}). x.0)
    (whole-one _ (around-one sequence policy_value.spells (whole-one policy_value.spells policy-value-one)) s (p, tt)
    (q, tt) h k)

-- ---- what an extension says

some-one : (x y : ExtensionParts) (o : Option ExtensionParts) → o ≡ Some x → o ≡ Some y → x ≡ y
some-one x y o e d = let s : ◌≡◌ {A = Option ExtensionParts} (Some x) (Some y) = sym e ∙ d in cc

says-one : {V : Type 0} (critical : Bool) (G : V → List ℕ → Type 0) → IsOneWhole G → (found : Option ExtensionParts)
    (v w : Option V) → Says critical G found v → Says critical G found w → v ≡ w
says-one critical G one found None None h k = refl
says-one critical G one found None (Some w) h k =
    let e : ◌≡◌ {A = Option ExtensionParts} None (Some k.0) = sym h ∙ k.1 in absurd (cc)
says-one critical G one found (Some v) None h k =
    let e : ◌≡◌ {A = Option ExtensionParts} None (Some h.0) = sym k ∙ h.1 in absurd (cc)
says-one {V} critical G one found (Some v) (Some w) h k =
    let e = some-one h.0 k.0 found h.1 k.1 in
    ap (λ (x : V). Some x)
    (one h.0.content v w h.3 (subst (λ (x : ExtensionParts). G w x.content) (sym e) k.3))

-- ---- what is kept of it

choice-kept : (v : ChoiceView) (a b : ResourcesChoice) → IsChoiceOf a v → IsChoiceOf b v → a ≡ b
choice-kept NoneThere Missing Missing h k = refl
choice-kept NoneThere Missing Inherit h k = absurd k
choice-kept NoneThere Missing (Blocks ds) h k = absurd k
choice-kept NoneThere Inherit b h k = absurd h
choice-kept NoneThere (Blocks bs) b h k = absurd h
choice-kept InheritThere Inherit Inherit h k = refl
choice-kept InheritThere Inherit Missing h k = absurd k
choice-kept InheritThere Inherit (Blocks ds) h k = absurd k
choice-kept InheritThere Missing b h k = absurd h
choice-kept InheritThere (Blocks bs) b h k = absurd h
choice-kept (BlocksThere x) (Blocks bs) (Blocks ds) h k = ap (λ (z : List Block). Blocks z) (holds-one x bs ds h k)
choice-kept (BlocksThere x) (Blocks bs) Missing h k = absurd k
choice-kept (BlocksThere x) (Blocks bs) Inherit h k = absurd k
choice-kept (BlocksThere x) Missing b h k = absurd h
choice-kept (BlocksThere x) Inherit b h k = absurd h

addresses-kept : (v : Option IpResourcesView) (a b : IpResources) → AreAddressesOf a v → AreAddressesOf b v → a ≡ b
addresses-kept None a b h k = h ∙ sym k
addresses-kept (Some x) a b h k =
    let v4 = choice-kept x.v4 a.v4 b.v4 h.0 k.0 in
    let v6 = choice-kept x.v6 a.v6 b.v6 h.1 k.1 in
    λ i. record { v4 = v4 i; v6 = v6 i }

numbers-kept : (v : Option ChoiceView) (a b : AsResources) → AreNumbersOf a v → AreNumbersOf b v → a ≡ b
numbers-kept None a b h k = h ∙ sym k
numbers-kept (Some x) a b h k =
    let numbers = choice-kept x a.numbers b.numbers h k in
    λ i. record { numbers = numbers i }

pub claim-one : (xs : List ExtensionParts) (c d : Claim) → IsClaim xs c → IsClaim xs d → c ≡ d
claim-one xs c d h k =
    let addresses = addresses-kept h.addresses.0 c.addresses d.addresses h.addresses.2
    (subst (AreAddressesOf d.addresses)
    (says-one true SpellsIpResources addresses-one _ k.addresses.0 h.addresses.0 k.addresses.1 h.addresses.1)
    k.addresses.2) in
    let numbers = numbers-kept h.numbers.0 c.numbers d.numbers h.numbers.2
    (subst (AreNumbersOf d.numbers)
    (says-one true SpellsAsResources numbers-one _ k.numbers.0 h.numbers.0 k.numbers.1 h.numbers.1) k.numbers.2) in
    λ i. record { addresses = addresses i; numbers = numbers i }

-- ---- what is settled

trimmed-one : (choice : ResourcesChoice) (issuer a b : List Block) → IsTrimmed choice issuer a
    → IsTrimmed choice issuer b → a ≡ b
trimmed-one Missing issuer a b h k = h ∙ sym k
trimmed-one Inherit issuer a b h k = h ∙ sym k
trimmed-one (Blocks bs) issuer a b h k =
    one-list a b h.canonical k.canonical (λ n m. (k.numbers n).1 ((h.numbers n).0 m))
    (λ n m. (h.numbers n).1 ((k.numbers n).0 m))

kind-one : (policy : Overclaim) (choice : ResourcesChoice) (issuer a b : List Block)
    → IsSettledBy policy choice issuer a → IsSettledBy policy choice issuer b → a ≡ b
kind-one Refuse choice issuer a b h k = h.claimed ∙ sym k.claimed
kind-one Trim choice issuer a b h k = trimmed-one choice issuer a b h k

same-set : (a b : ResourceSet) → a.ipv4 ≡ b.ipv4 → a.ipv6 ≡ b.ipv6 → a.asn ≡ b.asn → a ≡ b
same-set a b p q r = λ i. record { ipv4 = p i; ipv6 = q i; asn = r i }

settled-one : (policy : Overclaim) (c : Claim) (issuer a b : ResourceSet) → AreSettledBy policy c issuer a
    → AreSettledBy policy c issuer b → a ≡ b
settled-one policy c issuer a b h k =
    same-set a b (kind-one policy c.addresses.v4 issuer.ipv4 a.ipv4 b.ipv4 h.ipv4 k.ipv4)
    (kind-one policy c.addresses.v6 issuer.ipv6 a.ipv6 b.ipv6 h.ipv6 k.ipv6)
    (kind-one policy c.numbers.numbers issuer.asn a.asn b.asn h.asn k.asn)

same-some : (p q : Overclaim) → ◌≡◌ {A = Option Overclaim} (Some p) (Some q) → p ≡ q
same-some p q e = cc

-- under the resources of an issuer
pub one-held : (xs : List ExtensionParts) (issuer a b : ResourceSet) → HasResources xs issuer a
    → HasResources xs issuer b → a ≡ b
one-held xs issuer a b h k =
    let policy : k.policy ≡ h.policy = same-some k.policy h.policy
    (says-one true SpellsPolicies policies-one _ (Some k.policy) (Some h.policy) k.says h.says) in
    let claim : k.claim ≡ h.claim = claim-one xs k.claim h.claim k.claimed h.claimed in
    settled-one h.policy h.claim issuer a b h.settled
    (subst (λ (p : Overclaim). AreSettledBy p h.claim issuer b) policy
    (subst (λ (c : Claim). AreSettledBy k.policy c issuer b) claim k.settled))

anchored-one : (choice : ResourcesChoice) (a b : List Block) → IsAnchored choice a → IsAnchored choice b → a ≡ b
anchored-one Missing a b h k = h ∙ sym k
anchored-one Inherit a b h k = absurd h
anchored-one (Blocks bs) a b h k = h ∙ sym k

-- of its own
pub one-own-held : (xs : List ExtensionParts) (a b : ResourceSet) → HasOwnResources xs a → HasOwnResources xs b → a ≡ b
one-own-held xs a b h k =
    let claim : k.claim ≡ h.claim = claim-one xs k.claim h.claim k.claimed h.claimed in
    let anchored = subst (λ (c : Claim). AreAnchored c b) claim k.anchored in
    same-set a b (anchored-one h.claim.addresses.v4 a.ipv4 b.ipv4 h.anchored.ipv4 anchored.ipv4)
    (anchored-one h.claim.addresses.v6 a.ipv6 b.ipv6 h.anchored.ipv6 anchored.ipv6)
    (anchored-one h.claim.numbers.numbers a.asn b.asn h.anchored.asn anchored.asn)
