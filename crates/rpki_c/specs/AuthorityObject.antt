-- What a status says of a signed object below an authority of a path, and of what it attests (RFC 6488 3).
use Rattle.std.specs.Prelude.{◌≡◌, ◌⊎◌, ℕ, Bool, true, List, Ok, Result, MatchResult}
use Rattle.rpki_resources.specs.declared.block.Block.{Block}
use Rattle.rpki_resources.specs.Blocks.{IsAmong}
use Rattle.rpki_cert.specs.declared.extension.known_view.KnownView.{KnownView}
use Rattle.rpki_contents.specs.declared.aspa_view.AspaPart.{AspaPart}
use Rattle.rpki_contents.specs.declared.roa_view.RoaPart.{RoaPart}
use Rattle.rpki_contents.specs.AspaView.{FoundAspa, attestation}
use Rattle.rpki_contents.specs.FilesInPlace.{AreFiles}
use Rattle.rpki_contents.specs.Roa.{AttestationParts, fields_of, roa}
use Rattle.rpki_contents.specs.RoaView.{route_origin}
use Rattle.rpki_contents.specs.Within.{AreWithin}
use Rattle.rpki_objects.specs.SignedObject.{ObjectParts, object_fields_of, signed_object}
use Rattle.rpki_objects.specs.TypedObject.{typed_of}
use Rattle.rpki_valid.specs.ObjectResources.{AreInherited}
use Rattle.rpki_valid.specs.Processed.{KeepsOriginRules}
use Rattle.rpki_c.specs.declared.aspa.AspaParts.{AspaParts}
use Rattle.rpki_c.specs.declared.authority.Authority.{Authority}
use Rattle.rpki_c.specs.declared.owned.Addresses.{Addresses}
use Rattle.rpki_c.specs.declared.roa.RoaParts.{RoaParts}
use Rattle.rpki_c.specs.Aspa.{IsAspaWrong, aspa_part_number, passed}
use Rattle.rpki_c.specs.Authority.{IsWithoutManifest}
use Rattle.rpki_c.specs.AuthorityManifest.{IsSignedBelow, IsNoObjectBelow, IsManifestBelow, IsNoManifest, with_manifest}
use Rattle.rpki_c.specs.Owned.{HasAddresses, HasNoAddresses, HasNumbers, HasNoNumbers}
use Rattle.rpki_c.specs.Path.{KeepsPath, HasEndPath}
use Rattle.rpki_c.specs.Roa.{IsRoaWrong, roa_part_number, passed as passed_roa}
use Rattle.rpki_c.specs.SignedObject.{content_type_number}
use Rattle.rpki_c.specs.SignerResources.{ListsAddresses, ListsNumbers}
use Rattle.rpki_c.specs.Status.{other_kinds, other_resources, out_of_memory}

-- ---- route origins (RFC 9582)

-- the octets are an attestation, and each address of each prefix is among these
pub record IsOriginWithin (strict : Bool) (s : List ℕ) (own : Addresses) : Type 0 where
  pub content : AttestationParts
  pub spelled : (roa strict).spells (fields_of content) s
  pub within : AreWithin content own.v4 own.v6

-- 145 to 147: this part of the attestation is wrong. 58: an address is not among these. 7: allocation failed.
abbrev pub IsNoOriginWithin : Bool → List ℕ → Addresses → ℕ → Type 0
IsNoOriginWithin strict s own status =
    ((q : RoaPart) × (status ≡ roa_part_number q) × IsRoaWrong strict s q)
    ⊎ ((x : AttestationParts) × (roa strict).spells (fields_of x) s × (status ≡ other_resources)
    × (AreWithin x own.v4 own.v6 → ⊥))
    ⊎ (status ≡ out_of_memory)

-- a test of that, which hands out the parts of the attestation
abbrev pub TestsOrigin : Bool → List ℕ → Addresses → Result RoaParts ℕ → Type 0
TestsOrigin strict s own r =
    MatchResult r (λ parts. IsOriginWithin strict s own × (route_origin strict s ≡ Ok (passed_roa parts)))
    (IsNoOriginWithin strict s own)

-- 61: the certificate lists other kinds of resources. Else it has no addresses; or the attestation is not within them.
abbrev pub IsNoOrigin : Bool → Authority → ObjectParts → KnownView → ℕ → Type 0
IsNoOrigin strict by x known status =
    ((status ≡ other_kinds) × (ListsAddresses x.cert.tbs.extensions → ⊥))
    ⊎ (ListsAddresses x.cert.tbs.extensions × (HasNoAddresses known x.cert by.ip_blocks.now status
    ⊎ ((own : Addresses) × HasAddresses known x.cert by.ip_blocks.now own
    × IsNoOriginWithin strict x.content.content own status)))

-- The octets are a route origin attestation that is valid below the authority: an end entity has signed it (RFC 6488
-- 3), which lists addresses, and has those of each prefix (RFC 9582 5). So the path of its certificate leads up to the
-- trust anchor, and the rules of attestations hold of its resources. These are the parts of the attestation.
pub record IsOriginBelow (strict : Bool) (by : Authority) (s : List ℕ) (new : RoaParts) : Type 0 where
  pub x : ObjectParts
  pub spelled : (signed_object strict).spells (object_fields_of x) s
  pub type : content_type_number x.content.content_type ≡ 1
  pub known : KnownView
  pub signed : IsSignedBelow by x known
  pub kinds : ListsAddresses x.cert.tbs.extensions
  pub own : Addresses
  pub has : HasAddresses known x.cert by.ip_blocks.now own
  pub within : IsOriginWithin strict x.content.content own
  pub path : HasEndPath by x (KeepsOriginRules (typed_of x within.content))
  pub says : route_origin strict x.content.content ≡ Ok (passed_roa new)

abbrev pub TestsOriginBelow : Bool → Authority → List ℕ → Result RoaParts ℕ → Type 0
TestsOriginBelow strict by s r =
    MatchResult r (IsOriginBelow strict by s) (IsNoObjectBelow 1 strict by (IsNoOrigin strict by) s)

-- Status 0: the authority has a manifest, the object is valid below it, and its parts are written. Else it isn't, and
-- nothing is written.
abbrev pub IsOriginTold : Bool → Authority → List ℕ → ℕ → RoaParts → RoaParts → Type 0
IsOriginTold strict by s status old new =
    ((status ≡ 0) × (by.has_manifest ≡ true) × IsOriginBelow strict by s new)
    ⊎ ((IsWithoutManifest by status
    ⊎ ((by.has_manifest ≡ true) × IsNoObjectBelow 1 strict by (IsNoOrigin strict by) s status)) × (new ≡ old))

-- ---- providers (draft-ietf-sidrops-aspa-profile)

-- the octets are an attestation, and its customer is among these numbers
pub record IsCustomerWithin (s : List ℕ) (own : List Block) : Type 0 where
  pub content : FoundAspa
  pub read : attestation s ≡ Ok content
  pub within : IsAmong content.customer own

-- 148 to 151: this part of the attestation is wrong. 58: the customer is not among these.
abbrev pub IsNoCustomerWithin : List ℕ → List Block → ℕ → Type 0
IsNoCustomerWithin s own status =
    ((q : AspaPart) × (status ≡ aspa_part_number q) × IsAspaWrong s q)
    ⊎ ((x : FoundAspa) × (attestation s ≡ Ok x) × (status ≡ other_resources) × (IsAmong x.customer own → ⊥))

-- a test of that, which hands out the parts of the attestation
abbrev pub TestsCustomer : List ℕ → List Block → Result AspaParts ℕ → Type 0
TestsCustomer s own r =
    MatchResult r (λ parts. (h : IsCustomerWithin s own) × (passed parts ≡ h.content)) (IsNoCustomerWithin s own)

-- 61: the certificate lists other kinds of resources. Else it has no AS numbers; or the customer is not among them.
abbrev pub IsNoProviders : Authority → ObjectParts → KnownView → ℕ → Type 0
IsNoProviders by x known status =
    ((status ≡ other_kinds) × (ListsNumbers x.cert.tbs.extensions → ⊥))
    ⊎ (ListsNumbers x.cert.tbs.extensions × (HasNoNumbers known x.cert by.as_blocks.now status
    ⊎ ((own : List Block) × HasNumbers known x.cert by.as_blocks.now own
    × IsNoCustomerWithin x.content.content own status)))

-- The octets are an attestation of providers that is valid below the authority: an end entity has signed it (RFC 6488
-- 3), which lists AS numbers, and has that of the customer (draft-ietf-sidrops-aspa-profile 4). So the path of its
-- certificate leads up to the trust anchor, and the customer is among its resources. These are the parts of the
-- attestation.
pub record AreProvidersBelow (strict : Bool) (by : Authority) (s : List ℕ) (new : AspaParts) : Type 0 where
  pub x : ObjectParts
  pub spelled : (signed_object strict).spells (object_fields_of x) s
  pub type : content_type_number x.content.content_type ≡ 3
  pub known : KnownView
  pub signed : IsSignedBelow by x known
  pub kinds : ListsNumbers x.cert.tbs.extensions
  pub own : List Block
  pub has : HasNumbers known x.cert by.as_blocks.now own
  pub within : IsCustomerWithin x.content.content own
  pub path : HasEndPath by x (λ held. IsAmong within.content.customer held.asn)
  pub says : passed new ≡ within.content

abbrev pub TestsProvidersBelow : Bool → Authority → List ℕ → Result AspaParts ℕ → Type 0
TestsProvidersBelow strict by s r =
    MatchResult r (AreProvidersBelow strict by s) (IsNoObjectBelow 3 strict by (IsNoProviders by) s)

-- Status 0: the authority has a manifest, the object is valid below it, and its parts are written. Else it isn't, and
-- nothing is written.
abbrev pub AreProvidersTold : Bool → Authority → List ℕ → ℕ → AspaParts → AspaParts → Type 0
AreProvidersTold strict by s status old new =
    ((status ≡ 0) × (by.has_manifest ≡ true) × AreProvidersBelow strict by s new)
    ⊎ ((IsWithoutManifest by status
    ⊎ ((by.has_manifest ≡ true) × IsNoObjectBelow 3 strict by (IsNoProviders by) s status)) × (new ≡ old))

-- ---- the manifest of the authority (RFC 9286)

-- The manifest is valid below the authority: so the path of its certificate leads up to the trust anchor; and the new
-- authority is that one with its files, on the same path.
pub record IsMadeByManifest (strict : Bool) (by : Authority) (s : List ℕ) (new : Authority) : Type 0 where
  pub below : IsManifestBelow strict by s
  pub signer : HasEndPath by below.x (λ held. AreInherited below.x.cert.tbs.extensions)
  pub files : AreFiles below.held.content.files new.files.octets.now
  pub same : new ≡ with_manifest by new.files
  pub path : KeepsPath by new

-- Status 0: the manifest is valid below the authority, and the authority is made that has it. Else it isn't, and
-- nothing is written.
abbrev pub IsManifestTold : Bool → Authority → ℕ → List ℕ → ℕ → Authority → Authority → Type 0
IsManifestTold strict by capacity s status old new =
    ((status ≡ 0) × IsMadeByManifest strict by s new)
    ⊎ (IsNoObjectBelow 2 strict by (IsNoManifest by capacity) s status × (new ≡ old))
