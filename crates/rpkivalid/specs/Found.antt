-- What is found under locators.
use Rattle.std.specs.Prelude.{◌≡◌, ◌↔◌, ◌&&◌, ℕ, Bool, true, false, List, [], ◌∷◌, Option}
use Rattle.std.specs.List.{Contains, flat_map}
use Rattle.std.specs.List.Sorted.{IsStrictlySortedBy}
use Rattle.std.specs.declared.cmp.Ordering.{Ordering}
use Rattle.jiff.specs.Types.{DateTime}
use Rattle.rpki.specs.Checkers.{Models}
use Rattle.rpki.specs.PublicKey.{KeyParts, key_octets}
use Rattle.rpki_contents.specs.Aspa.{AspaParts}
use Rattle.rpki_locator.specs.declared.anchor_uri.AnchorUri.{AnchorUri}
use Rattle.rpki_objects.specs.declared.strictness.Strictness.{Strictness}
use Rattle.rpki_payloads.specs.declared.router_key.RouterKey.{RouterKey}
use Rattle.rpki_payloads.specs.declared.vap.CustomerProvider.{CustomerProvider}
use Rattle.rpki_payloads.specs.Payloads.{PayloadParts}
use Rattle.rpki_payloads.specs.RouterKey.{block_keys, key_cmp}
use Rattle.rpki_payloads.specs.Vap.{pair_cmp, pairs_of}
use Rattle.rpki_payloads.specs.Vrp.{origin_of, vrp_cmp}
use Rattle.rpki_valid.specs.Verified.{Holder, terms_of}
use Rattle.rpki_validation.specs.Basis.{Basis, basis_by}
use Rattle.rpki_validation.specs.Finding.{IsNone}
use Rattle.rpki_validation.specs.Payload.{AreProviders, IsOrigin, IsRouter}
use Rattle.rpki_validation.specs.Reached.{IsFirstAnchor}
use Rattle.rpki_validation.specs.Snapshot.{Published, Where}
use Rattle.rpkivalid.specs.Counted.{IsCounted}
use Rattle.rpkivalid.specs.Ends.{AreTimed}
use Rattle.rpkivalid.specs.Locators.{Holds, NamedParts}
use Rattle.rpkivalid.specs.Paths.{copy_in}

-- what paths are checked against under a locator with this key: the provider's signatures and digests, the rules that
-- are asked strictly, so many authorities below the trust anchor, and the moment
abbrev pub basis_with : {X : Type 0} → Models X → X → (strictness : Strictness) → DateTime → ℕ → KeyParts → Basis
basis_with models provider strictness at depth key = basis_by models (terms_of key strictness depth) provider at

-- ---- payloads as routers are given them

-- an attestation that is valid says this provider of its customer
abbrev pub IsProvider : Published → Basis → List AnchorUri → CustomerProvider → Type 0
IsProvider published basis uris v =
    (x : AspaParts) × AreProviders published basis uris x × Contains (pairs_of x) v

-- The keys of a router (RFC 8210 5.10), one for each block of the AS numbers that its certificate has: the identifier
-- is the digest of the key (RFC 6487 4.8.2).
abbrev pub router_keys : (List ℕ → List ℕ) → Holder → List RouterKey
router_keys sha1 x =
    flat_map (block_keys (sha1 x.cert.tbs.key.bits.octets) (key_octets x.cert.tbs.key)) x.resources.asn

-- a certificate of a router that is valid has this key
abbrev pub IsRouterKey : Published → Basis → List AnchorUri → RouterKey → Type 0
IsRouterKey published basis uris v =
    (x : Holder) × IsRouter published basis uris x × Contains (router_keys basis.by.sha1 x) v

-- ---- what is found

-- each once, in order; and exactly those that P is true of, of what is published, where that is known
pub record IsSetWhere {A : Type 0} (known : Option Published) (R : A → A → Ordering) (P : Published → A → Type 0)
    (all : List A) : Type 0 where
  pub order : IsStrictlySortedBy R all
  pub each : Where known (λ published. (v : A) → Contains all v ↔ P published v)

-- The payloads under a locator are those that are valid, and no others, each once, in order; and whether it has a trust
-- anchor, without which there are none.
pub record IsFound (known : Option Published) (basis : Basis) (l : NamedParts) (p : PayloadParts) (anchored : Bool)
    : Type 0 where
  pub name : p.name ≡ l.name
  pub vrps : IsSetWhere known vrp_cmp (λ published v. IsOrigin published basis l.uris (origin_of v)) p.vrps
  pub timed : AreTimed known basis l.uris p.timed
  pub pairs : IsSetWhere known pair_cmp (λ published v. IsProvider published basis l.uris v) p.pairs
  pub keys : IsSetWhere known key_cmp (λ published v. IsRouterKey published basis l.uris v) p.keys
  pub counted : IsCounted known basis l.uris p.tally anchored
  pub anchor : anchored ≡ true → Where known (λ published. (x : Holder) × IsFirstAnchor published basis l.uris x)
  pub none : anchored ≡ false → Where known (λ published. IsNone (IsFirstAnchor published basis l.uris))

-- in this folder
abbrev pub IsFoundIn : Holds → (folder : List ℕ) → (KeyParts → Basis) → NamedParts → PayloadParts → Bool → Type 0
IsFoundIn holds folder basis l = IsFound (copy_in folder l.name holds) (basis l.key) l

-- those of all locators, in their order; and whether each of them has a trust anchor
abbrev pub AreFound : (NamedParts → PayloadParts → Bool → Type 0) → List NamedParts → List PayloadParts → Bool → Type 0
AreFound R [] [] all = all ≡ true
AreFound R [] (p ∷ ps) all = ⊥
AreFound R (l ∷ ls) [] all = ⊥
AreFound R (l ∷ ls) (p ∷ ps) all =
    (one : Bool) × (rest : Bool) × R l p one × AreFound R ls ps rest × (all ≡ (one && rest))
