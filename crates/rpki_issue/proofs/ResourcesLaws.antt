-- The resources of a certificate that is issued, as the rules of profiles speak of them.
use Rattle.std.proofs.Common.{◌≡◌, ◌<◌, ◌^◌, ◌||◌, ◌&&◌, ℕ, Bool, true, false, List, ◌++◌, length}
use Rattle.std.proofs.Common.{refl, arith, Option, Some, None, IsTrue, bytes_eq}
use Rattle.std.specs.Option.{is_some}
use Rattle.rpki_der.specs.OptionalPart.{OfPart}
use Rattle.rpki_der.specs.TagName.{sequence}
use Rattle.rpki_der.proofs.EncodeLaws.{tlv-at-least}
use Rattle.rpki.specs.ExtensionValue.{ExtensionParts}
use Rattle.rpki_resources.specs.declared.choice.ResourcesChoice.{ResourcesChoice}
use Rattle.rpki_resources.specs.declared.choice.ResourcesChoice.TheVariants as Kept
use Rattle.rpki_resources.specs.declared.choice_view.ChoiceView.{ChoiceView}
use Rattle.rpki_resources.specs.declared.choice_view.ChoiceView.TheVariants.{Missing, Inherit, Blocks}
use Rattle.rpki_resources.specs.declared.ip_view.IpResourcesView.{IpResourcesView}
use Rattle.rpki_resources.specs.declared.resources.IpResources.{IpResources}
use Rattle.rpki_resources.specs.declared.resources.AsResources.{AsResources}
use Rattle.rpki_resources.specs.Extension.{SpellsIpResources, SpellsAsResources}
use Rattle.rpki_resources.specs.EncodedResources.{ip_octets, ip_contents, as_identifiers_octets}
use Rattle.rpki_resources.specs.EncodedResources.{as_identifiers_contents}
use Rattle.rpki_resources.specs.Kept.{IsChoiceOf}
use Rattle.rpki_resources.proofs.ResourcesWritingLaws.{ip-back, as-back}
use Rattle.rpki_cert.specs.declared.extension.policy.Overclaim.TheVariants.{Refuse}
use Rattle.rpki_cert.specs.Cert.{find}
use Rattle.rpki_cert.specs.Known.{ip_addr_blocks, autonomous_sys_ids}
use Rattle.rpki_cert.specs.Known.{are_understood}
use Rattle.rpki_cert.specs.RuleWords.{has_resources, is_of_version}
use Rattle.rpki_cert.specs.ResourceExtensions.{IsWellFormed, SaysThat, addresses_of, numbers_of, is_own}
use Rattle.rpki_cert.specs.ResourceExtensions.{are_own_addresses, are_own_numbers}
use Rattle.rpki_issue.specs.Extensions.{addresses_part, numbers_part, CanHoldIp, CanHoldAs}
use Rattle.rpki_issue.specs.Issuing.{IsNotInherited, OwnsAddresses}

abbrev pub resources : Option (List ℕ) → Option (List ℕ) → List ExtensionParts
resources ip asn = addresses_part ip ++ numbers_part asn

-- no other extension is among them
pub absent : (id : List ℕ) (ip asn : Option (List ℕ)) → bytes_eq ip_addr_blocks id ≡ false
    → bytes_eq autonomous_sys_ids id ≡ false → find id (resources ip asn) ≡ None
absent id None None p q = refl
absent id None (Some a) p q = rw q refl
absent id (Some i) None p q = rw p refl
absent id (Some i) (Some a) p q = rw (p, q) refl

pub understood : (ip asn : Option (List ℕ)) → IsTrue (are_understood (resources ip asn))
understood None None = refl
understood None (Some a) = refl
understood (Some i) None = refl
understood (Some i) (Some a) = refl

pub there : (ip asn : Option (List ℕ)) → IsTrue (is_some ip || is_some asn)
    → IsTrue (has_resources (resources ip asn))
there None None h = absurd (cc)
there None (Some a) h = refl
there (Some i) None h = refl
there (Some i) (Some a) h = refl

pub version : (ip asn : Option (List ℕ)) → IsTrue (is_of_version Refuse (resources ip asn))
version None None = refl
version None (Some a) = refl
version (Some i) None = refl
version (Some i) (Some a) = refl

-- ---- what is written of them is read

pub record ReadsIp (octets : List ℕ) : Type 0 where
  pub view : IpResourcesView
  pub spelled : SpellsIpResources view octets

pub record ReadsAs (octets : List ℕ) : Type 0 where
  pub view : ChoiceView
  pub spelled : SpellsAsResources view octets

ip-few : (x : IpResources) → CanHoldIp x → length (ip_contents x) < 2 ^ 32
ip-few x h = let few = h.few in omega (arith, few, tlv-at-least sequence true (ip_contents x))

as-few : (x : AsResources) → CanHoldAs x → length (as_identifiers_contents x) < 2 ^ 32
as-few x h = let few = h.few in omega (arith, few, tlv-at-least sequence true (as_identifiers_contents x))

pub reads-ip : (x : IpResources) → CanHoldIp x → ReadsIp (ip_octets x)
reads-ip x h =
    let s = ip-back x h.legal (ip-few x h) in record { view = s.value; spelled = s.spelled }

pub reads-as : (x : AsResources) → CanHoldAs x → ReadsAs (as_identifiers_octets x)
reads-as x h =
    let s = as-back x h.legal (as-few x h) in record { view = s.value; spelled = s.spelled }

own-choice : (v : ResourcesChoice) (x : ChoiceView) → IsNotInherited v → IsChoiceOf v x → IsTrue (is_own x)
own-choice Kept.Missing Missing h k = refl
own-choice Kept.Missing Inherit h k = absurd k
own-choice Kept.Missing (Blocks b) h k = absurd k
own-choice Kept.Inherit x h k = absurd (h refl)
own-choice (Kept.Blocks bs) Missing h k = absurd k
own-choice (Kept.Blocks bs) Inherit h k = absurd k
own-choice (Kept.Blocks bs) (Blocks b) h k = refl

both-true : (a b : Bool) → IsTrue a → IsTrue b → IsTrue (a && b)
both-true true true h k = refl
both-true true false h k = absurd (cc)
both-true false b h k = absurd (cc)

pub record OwnsIp (octets : List ℕ) : Type 0 where
  pub reads : ReadsIp octets
  pub own : IsTrue (is_own reads.view.v4 && is_own reads.view.v6)

pub record OwnsAs (octets : List ℕ) : Type 0 where
  pub reads : ReadsAs octets
  pub own : IsTrue (is_own reads.view)

pub owns-ip : (x : IpResources) → CanHoldIp x → OwnsAddresses x → OwnsIp (ip_octets x)
owns-ip x h k =
    let s = ip-back x h.legal (ip-few x h) in
    record {
      reads = record { view = s.value; spelled = s.spelled };
      own = both-true (is_own s.value.v4) (is_own s.value.v6) (own-choice x.v4 s.value.v4 k.v4 s.stands.0)
          (own-choice x.v6 s.value.v6 k.v6 s.stands.1);
    }

pub owns-as : (x : AsResources) → CanHoldAs x → IsNotInherited x.numbers → OwnsAs (as_identifiers_octets x)
owns-as x h k =
    let s = as-back x h.legal (as-few x h) in
    record { reads = record { view = s.value; spelled = s.spelled }; own = own-choice x.numbers s.value k s.stands }

-- ---- as the rules say it

pub addresses-formed : (ip asn : Option (List ℕ)) → OfPart ReadsIp ip
    → IsWellFormed SpellsIpResources (addresses_of (resources ip asn))
addresses-formed None None h = (None, refl)
addresses-formed None (Some a) h = (None, refl)
addresses-formed (Some i) asn h = (Some h.view, (_, refl, refl, h.spelled))

pub numbers-formed : (ip asn : Option (List ℕ)) → OfPart ReadsAs asn
    → IsWellFormed SpellsAsResources (numbers_of (resources ip asn))
numbers-formed None None h = (None, refl)
numbers-formed None (Some a) h = (Some h.view, (_, refl, refl, h.spelled))
numbers-formed (Some i) None h = (None, refl)
numbers-formed (Some i) (Some a) h = (Some h.view, (_, refl, refl, h.spelled))

pub addresses-own : (ip asn : Option (List ℕ)) → OfPart OwnsIp ip
    → SaysThat SpellsIpResources (addresses_of (resources ip asn)) are_own_addresses
addresses-own None None h = (None, refl, refl)
addresses-own None (Some a) h = (None, refl, refl)
addresses-own (Some i) asn h = (Some h.reads.view, (_, refl, refl, h.reads.spelled), h.own)

pub numbers-own : (ip asn : Option (List ℕ)) → OfPart OwnsAs asn
    → SaysThat SpellsAsResources (numbers_of (resources ip asn)) are_own_numbers
numbers-own None None h = (None, refl, refl)
numbers-own None (Some a) h = (Some h.reads.view, (_, refl, refl, h.reads.spelled), h.own)
numbers-own (Some i) None h = (None, refl, refl)
numbers-own (Some i) (Some a) h = (Some h.reads.view, (_, refl, refl, h.reads.spelled), h.own)
