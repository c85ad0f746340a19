-- The certificates of signed objects are on a path, where the authority that is asked is.
use Rattle.std.proofs.Common.{◌≡◌, ◌∙◌, ◌&&◌, ℕ, Bool, true, false, List, [], Option, Some, None, refl, sym, ap}
use Rattle.std.proofs.Common.{subst, arith}
use Rattle.std.specs.Prelude.{IsTrue}
use Rattle.rpki.specs.ExtensionValue.{ExtensionParts}
use Rattle.rpki.specs.PublicKey.{KeyParts}
use Rattle.rpki_resources.specs.declared.block.Block.{Block}
use Rattle.rpki_resources.specs.declared.choice.ResourcesChoice.{ResourcesChoice}
use Rattle.rpki_resources.specs.declared.choice.ResourcesChoice.TheVariants.{Missing, Inherit}
use Rattle.rpki_resources.specs.declared.choice_view.ChoiceView.{ChoiceView}
use Rattle.rpki_resources.specs.declared.family.AddressFamily.TheVariants.{Ipv4, Ipv6}
use Rattle.rpki_resources.specs.declared.ip_view.IpResourcesView.{IpResourcesView}
use Rattle.rpki_resources.specs.Blocks.{AreCanonical, AreNumbersOf, IsAmong}
use Rattle.rpki_resources.specs.Kept.{IsChoiceOf}
use Rattle.rpki_resources.proofs.KeptLaws.{ip_of}
use Rattle.rpki_cert.specs.declared.extension.known_view.KnownView.{KnownView}
use Rattle.rpki_cert.specs.declared.extension.policy.Overclaim.{Overclaim}
use Rattle.rpki_cert.specs.declared.extension.policy.Overclaim.TheVariants.{Refuse, Trim}
use Rattle.rpki_cert.specs.declared.profile.Profile.TheVariants.{Ee}
use Rattle.rpki_cert.specs.declared.profile.rule.CertRule.TheVariants.{CertificatePolicies}
use Rattle.rpki_cert.specs.Cert.{CertParts}
use Rattle.rpki_cert.specs.KnownView.{AreKnown}
use Rattle.rpki_cert.specs.Profile.{HasProfile}
use Rattle.rpki_cert.specs.ResourceExtensions.{addresses_of, numbers_of}
use Rattle.rpki_objects.specs.SignedObject.{ObjectParts}
use Rattle.rpki_objects.specs.TypedObject.{typed_of}
use Rattle.rpki_valid.specs.ObjectResources.{AreInherited, are_unlisted_addresses, are_unlisted_numbers, is_unlisted}
use Rattle.rpki_valid.specs.Processed.{KeepsOriginRules}
use Rattle.rpki_c.specs.declared.authority.Authority.{Authority}
use Rattle.rpki_c.specs.declared.owned.Addresses.{Addresses}
use Rattle.rpki_c.specs.Authority.{Own, set_of}
use Rattle.rpki_c.specs.AuthorityManifest.{IsManifestBelow, IsSignedBelow}
use Rattle.rpki_c.specs.AuthorityObject.{IsCustomerWithin, IsOriginWithin}
use Rattle.rpki_c.specs.Owned.{HasAddresses, HasNumbers}
use Rattle.rpki_c.specs.Below.{checkers}
use Rattle.rpki_c.specs.Path.{HasEndPath, IsOfPath, terms_under}
use Rattle.rpki_c.specs.Settling.{AreHeld, IsSettledBy, as_blocks, claimed_addresses, claimed_numbers, family_blocks}
use Rattle.rpki_c.specs.SignerResources.{ListsAddresses, ListsNumbers}
use Rattle.rpki_valid.specs.declared.staleness.Staleness.TheVariants.{Refused}
use Rattle.rpki_valid.specs.Verified.{holder}
use Rattle.rpki_c.proofs.BlocksBackLaws.{four-is, numbers-are, six-is}
use Rattle.rpki_c.proofs.HeldLaws.{AreAllSound, authority-sound}
use Rattle.rpki_c.proofs.PathLaws.{end-path}

-- ---- nothing is claimed, or what the issuer has

none-settled : (policy : Overclaim) (over : List Block) → IsSettledBy policy Missing over []
none-settled Refuse over = record { within = tt; claimed = refl }
none-settled Trim over = refl

all-settled : (policy : Overclaim) (over : List Block) → IsSettledBy policy Inherit over over
all-settled Refuse over = record { within = tt; claimed = refl }
all-settled Trim over = refl

abbrev IsSettledAt : Overclaim → ChoiceView → List Block → Type 0
IsSettledAt policy x over =
    (v : ResourcesChoice) × (own : List Block) × IsChoiceOf v x × IsSettledBy policy v over own

unlisted-settled : (policy : Overclaim) (x : ChoiceView) (over : List Block) → IsTrue (is_unlisted x)
    → IsSettledAt policy x over
unlisted-settled policy ChoiceView.Missing over h = (Missing, [], tt, none-settled policy over)
unlisted-settled policy ChoiceView.Inherit over h = (Inherit, over, tt, all-settled policy over)
unlisted-settled policy (ChoiceView.Blocks x) over h = absurd (cc)

both-true : (a b : Bool) → IsTrue (a && b) → IsTrue a × IsTrue b
both-true true b h = (refl, h)
both-true false b h = absurd (cc)

addresses-unlisted : (said : Option IpResourcesView) → IsTrue (are_unlisted_addresses said)
    → IsTrue (is_unlisted (claimed_addresses said).v4) × IsTrue (is_unlisted (claimed_addresses said).v6)
addresses-unlisted None h = (refl, refl)
addresses-unlisted (Some x) h = both-true (is_unlisted x.v4) (is_unlisted x.v6) h

numbers-unlisted : (said : Option ChoiceView) → IsTrue (are_unlisted_numbers said)
    → IsTrue (is_unlisted (claimed_numbers said))
numbers-unlisted None h = refl
numbers-unlisted (Some x) h = h

not-there : (found : Option ExtensionParts) → ((found ≡ None → ⊥) → ⊥) → found ≡ None
not-there None h = refl
not-there (Some x) h = absurd (h (λ is. cc))

-- ---- what the entries of an authority of a path say

same-held : (blocks held : List Block) → blocks ≡ held → AreCanonical held → AreNumbersOf blocks held
same-held blocks held is c = record {
  numbers = λ n. (λ a. subst (IsAmong n) (sym is) a, λ a. subst (IsAmong n) is a);
  canonical = c;
}

module _ (key : KeyParts) (by : Authority) (p : IsOfPath key by) where
  sound : AreAllSound p.held
  sound = authority-sound (terms_under key) (Some Refused) checkers p.at by.depth (holder p.cert p.held) p.path

  addresses-there : AreHeld by.ip_blocks.now p.held.ipv4 p.held.ipv6
  addresses-there = record {
    in_v4 = same-held (family_blocks Ipv4 by.ip_blocks.now) p.held.ipv4
        (ap (family_blocks Ipv4) p.passed.addresses ∙ four-is p.held.ipv4 p.held.ipv6 sound.v4.fit)
        sound.v4.canonical;
    in_v6 = same-held (family_blocks Ipv6 by.ip_blocks.now) p.held.ipv6
        (ap (family_blocks Ipv6) p.passed.addresses ∙ six-is p.held.ipv4 p.held.ipv6 sound.v6.fit)
        sound.v6.canonical;
  }

  numbers-there : AreNumbersOf (as_blocks by.as_blocks.now) p.held.asn
  numbers-there =
      same-held (as_blocks by.as_blocks.now) p.held.asn (ap as_blocks p.passed.numbers ∙ numbers-are p.held.asn)
      sound.asn.canonical

  module _ (x : CertParts) (known : KnownView) (policy : Overclaim) (is : known.overclaim ≡ Some policy) where
    pub no-numbers : numbers_of x.tbs.extensions ≡ None → HasNumbers known x by.as_blocks.now []
    no-numbers missing = record {
      policy = policy;
      by = is;
      claim = Missing;
      claimed = record { said = None; says = missing; claimed = tt };
      owned = record { over = p.held.asn; held = numbers-there; settled = none-settled policy p.held.asn };
    }

    pub no-addresses : addresses_of x.tbs.extensions ≡ None
        → HasAddresses known x by.ip_blocks.now (record { v4 = []; v6 = [] })
    no-addresses missing = record {
      policy = policy;
      by = is;
      claim = ip_of Missing Missing;
      claimed = record { said = None; says = missing; claimed = (tt, tt) };
      owned = record {
        over4 = p.held.ipv4;
        over6 = p.held.ipv6;
        held = addresses-there;
        settled4 = none-settled policy p.held.ipv4;
        settled6 = none-settled policy p.held.ipv6;
      };
    }

    pub inherited-addresses : AreInherited x.tbs.extensions
        → (own : Addresses) × HasAddresses known x by.ip_blocks.now own
    inherited-addresses inherited =
        let (said, says, test) = inherited.addresses in
        let unlisted = addresses-unlisted said test in
        let (v4, own4, is4, settled4) = unlisted-settled policy (claimed_addresses said).v4 p.held.ipv4 unlisted.0 in
        let (v6, own6, is6, settled6) = unlisted-settled policy (claimed_addresses said).v6 p.held.ipv6 unlisted.1 in (
          record { v4 = own4; v6 = own6 },
          record {
            policy = policy;
            by = is;
            claim = ip_of v4 v6;
            claimed = record { said = said; says = says; claimed = (is4, is6) };
            owned = record {
              over4 = p.held.ipv4;
              over6 = p.held.ipv6;
              held = addresses-there;
              settled4 = settled4;
              settled6 = settled6;
            };
          },
        )

    pub inherited-numbers : AreInherited x.tbs.extensions → (own : List Block) × HasNumbers known x by.as_blocks.now own
    inherited-numbers inherited =
        let (said, says, test) = inherited.numbers in
        let (v, own, choice, settled) = unlisted-settled policy (claimed_numbers said) p.held.asn
        (numbers-unlisted said test) in (
          own,
          record {
            policy = policy;
            by = is;
            claim = v;
            claimed = record { said = said; says = says; claimed = choice };
            owned = record { over = p.held.asn; held = numbers-there; settled = settled };
          },
        )

-- ---- route origins

pub origin-path : (strict : Bool) (by : Authority) (x : ObjectParts) (known : KnownView) (own : Addresses)
    → IsSignedBelow by x known → ListsAddresses x.cert.tbs.extensions
    → HasAddresses known x.cert by.ip_blocks.now own
    → (within : IsOriginWithin strict x.content.content own)
    → HasEndPath by x (KeepsOriginRules (typed_of x within.content))
origin-path strict by x known own signed kinds has within key p =
    let missing = not-there (numbers_of x.cert.tbs.extensions) kinds.alone in
    let all : Own = record { addresses = own; numbers = [] } in (
      set_of all,
      end-path Ee by x.cert known all signed.says signed.below
          (record { addresses = has; numbers = no-numbers key by p x.cert known has.policy has.by missing }) key p,
      record { addresses = kinds.there; own = kinds.own; numbers = missing; within = within.within },
    )

-- ---- providers

pub customer-path : (by : Authority) (x : ObjectParts) (known : KnownView) (own : List Block)
    → IsSignedBelow by x known → ListsNumbers x.cert.tbs.extensions → HasNumbers known x.cert by.as_blocks.now own
    → (within : IsCustomerWithin x.content.content own)
    → HasEndPath by x (λ held. IsAmong within.content.customer held.asn)
customer-path by x known own signed kinds has within key p =
    let missing = not-there (addresses_of x.cert.tbs.extensions) kinds.alone in
    let all : Own = record { addresses = record { v4 = []; v6 = [] }; numbers = own } in (
      set_of all,
      end-path Ee by x.cert known all signed.says signed.below
          (record { addresses = no-addresses key by p x.cert known has.policy has.by missing; numbers = has }) key p,
      within.within,
    )

-- ---- manifests

has-policy : (x : CertParts) (known : KnownView) → AreKnown x.tbs.extensions known → HasProfile Ee true x.tbs
    → (policy : Overclaim) × (known.overclaim ≡ Some policy)
has-policy x known says has =
    let (policy, some) = has 6 CertificatePolicies (omega arith) in
    (policy, sym (says.policy.1 (Some policy) some))

pub signer-path : (strict : Bool) (by : Authority) (s : List ℕ) → (m : IsManifestBelow strict by s)
    → HasEndPath by m.x (λ held. AreInherited m.x.cert.tbs.extensions)
signer-path strict by s m key p =
    let x = m.x.cert in
    let (policy, is) = has-policy x m.known m.signed.says m.signed.below.profiled in
    let (addresses, has) = inherited-addresses key by p x m.known policy is m.inherited in
    let (numbers, have) = inherited-numbers key by p x m.known policy is m.inherited in
    let all : Own = record { addresses = addresses; numbers = numbers } in (
      set_of all,
      end-path Ee by x m.known all m.signed.says m.signed.below (record { addresses = has; numbers = have }) key p,
      m.inherited,
    )
