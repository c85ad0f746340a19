-- What a status says of a signed object below an authority of a path (RFC 6488 3), and of the authority's manifest.
use Rattle.std.specs.Prelude.{◌≡◌, ◌≢◌, ◌⊎◌, ◌<◌, ℕ, Bool, true, List, Result, MatchResult, length}
use Rattle.std.specs.Prelude.{filter, codes, nat_eq, [], ◌∷◌, Option, Some, None}
use Rattle.std.specs.List.{ends_with}
use Rattle.jiff.specs.Types.{DateTime}
use Rattle.rpki_cert.specs.declared.extension.known_view.KnownView.{KnownView}
use Rattle.rpki_cert.specs.declared.profile.Profile.TheVariants.{Ee}
use Rattle.rpki_cert.specs.KnownView.{AreKnown}
use Rattle.rpki_contents.specs.declared.manifest_part.ManifestPart.{ManifestPart}
use Rattle.rpki_contents.specs.FilesInPlace.{AreFiles}
use Rattle.rpki_contents.specs.ListedFile.{ListedFile, AreDistinct}
use Rattle.rpki_contents.specs.Manifest.{ManifestParts, period_of}
use Rattle.rpki_contents.specs.ManifestView.{IsManifestWrong}
use Rattle.rpki_objects.specs.declared.object_part.ObjectPart.{ObjectPart}
use Rattle.rpki_objects.specs.SignedObject.{ObjectParts, object_fields_of, signed_object}
use Rattle.rpki_objects.specs.SignedObjectView.{IsObjectWrong}
use Rattle.rpki_time.specs.Validity.{HoldsAt}
use Rattle.rpki_valid.specs.ObjectResources.{AreInherited}
use Rattle.rpki_valid.specs.ObjectVerified.{IsSignedObject}
use Rattle.rpki_c.specs.declared.authority.Authority.{Authority}
use Rattle.rpki_c.specs.declared.authority_manifest.Held.{Held}
use Rattle.rpki_c.specs.declared.span.Span.{Span}
use Rattle.rpki_c.specs.Below.{checkers, IsBelow, IsNotBelow}
use Rattle.rpki_c.specs.ListName.{NamesFile}
use Rattle.rpki_c.specs.Made.{IsPossible, IsTimeOf}
use Rattle.rpki_c.specs.Manifest.{IsListing, manifest_part_number}
use Rattle.rpki_c.specs.Moments.{IsToldOf}
use Rattle.rpki_c.specs.SignedObject.{object_part_number, IsNoObject, certificate_in, HasSignedContent, IsContentWrong}
use Rattle.rpki_c.specs.SignedObject.{IsSignerTold, content_type_number}
use Rattle.rpki_c.specs.Status.{other_type, not_inherited, same_names, other_list, other_list_uri, too_small, content}

-- ---- the object, and its certificate

-- The key of the certificate has signed the object (RFC 6488 3), and the certificate is that of an end entity, valid
-- below the authority, whose extensions say this.
pub record IsSignedBelow (by : Authority) (x : ObjectParts) (known : KnownView) : Type 0 where
  pub signed : IsSignedObject checkers x
  pub says : AreKnown x.cert.tbs.extensions known
  pub below : IsBelow Ee by x.cert

-- 55, 54: the content is not the one that is signed. Else it is, and the certificate, of these octets, is none that may
-- be below the authority; or it is one, and the status is that of the signer.
abbrev pub IsNotSignedBelow : Authority → ObjectParts → List ℕ → ℕ → Type 0
IsNotSignedBelow by x s status =
    IsContentWrong x status
    ⊎ (HasSignedContent x × (IsNotBelow Ee by s x.cert status
    ⊎ ((known : KnownView) × AreKnown x.cert.tbs.extensions known × IsBelow Ee by x.cert × (status ≢ 0)
    × IsSignerTold x.cert known x.signer.identifier x.signer.attributes.message x.signer.signature.value status)))

abbrev pub TestsSigned : Authority → ObjectParts → List ℕ → Result KnownView ℕ → Type 0
TestsSigned by x s r = MatchResult r (IsSignedBelow by x) (IsNotSignedBelow by x s)

-- 64 to 137: this part of the object is wrong. Else the octets are an object. 55: its content is of another type than
-- this one. Else it isn't signed below the authority; or it is, and the rest of the rules says the status.
abbrev pub IsNoObjectBelow : ℕ → Bool → Authority → (ObjectParts → KnownView → ℕ → Type 0) → List ℕ → ℕ → Type 0
IsNoObjectBelow type strict by Rest s status =
    ((q : ObjectPart) × (status ≡ object_part_number q) × IsObjectWrong strict s q × IsNoObject strict s)
    ⊎ ((x : ObjectParts) × (h : (signed_object strict).spells (object_fields_of x) s)
    × (((status ≡ other_type) × (content_type_number x.content.content_type ≢ type))
    ⊎ ((content_type_number x.content.content_type ≡ type)
    × (IsNotSignedBelow by x (certificate_in strict x s h) status
    ⊎ ((known : KnownView) × IsSignedBelow by x known × Rest x known status)))))

-- ---- manifests (RFC 9286)

-- by its name a file is a revocation list (RFC 6481 2.2)
abbrev pub is_list : ListedFile → Bool
is_list file = ends_with nat_eq file.0 (codes ".crl")

-- the one file that is a list by its name; none, where there is none or more than one (RFC 6481 2.2)
abbrev pub only : List ListedFile → Option ListedFile
only [] = None
only (file ∷ []) = Some file
only (file ∷ other ∷ files) = None

abbrev pub list_file : List ListedFile → Option ListedFile
list_file files = only (filter is_list files)

-- one file is a list by its name, and that has this digest (RFC 6481 2.2, RFC 9286 4.2.1)
pub record ListsOnly (files : List ListedFile) (digest : List ℕ) : Type 0 where
  pub file : ListedFile
  pub listed : list_file files ≡ Some file
  pub same : file.1 ≡ digest

-- the octets are a manifest, no two of whose files have the same name, whose revocation list is the authority's, and
-- which holds at the moment of the path (RFC 9286 4.2.1, 6.3)
pub record IsManifestHeld (by : Authority) (s : List ℕ) : Type 0 where
  pub content : ManifestParts
  pub listing : IsListing content s
  pub distinct : AreDistinct content.files
  pub list : ListsOnly content.files by.list_digest
  pub at : DateTime
  pub moment : IsTimeOf by.moment at
  pub now : HoldsAt (period_of content) at

-- 9: there are more files than this. 46: two have the same name. 47: the list isn't the authority's. 5: the moment is
-- none. 50, 51: it is not held then.
abbrev pub IsManifestRefused : Authority → ℕ → ManifestParts → ℕ → Type 0
IsManifestRefused by capacity x status =
    ((status ≡ too_small) × (capacity < length x.files))
    ⊎ ((status ≡ same_names) × (AreDistinct x.files → ⊥))
    ⊎ ((status ≡ other_list) × (ListsOnly x.files by.list_digest → ⊥))
    ⊎ ((status ≡ content) × (IsPossible by.moment → ⊥))
    ⊎ ((at : DateTime) × IsTimeOf by.moment at × (status ≢ 0) × IsToldOf (period_of x) at status)

-- 138 to 144: this part of the manifest is wrong. Else it is one, and the status is as above.
abbrev pub IsNoManifestHeld : Authority → ℕ → List ℕ → ℕ → Type 0
IsNoManifestHeld by capacity s status =
    ((q : ManifestPart) × (status ≡ manifest_part_number q) × IsManifestWrong s q)
    ⊎ ((x : ManifestParts) × IsListing x s × IsManifestRefused by capacity x status)

-- the octets of its files, and the name of its list
pub record IsHeldAs (by : Authority) (s : List ℕ) (x : Held) : Type 0 where
  pub held : IsManifestHeld by s
  pub files : AreFiles held.content.files x.files.octets.now
  pub list : x.list.now ≡ held.list.file.0

-- a test of that, which hands them out
abbrev pub TestsManifest : Authority → ℕ → List ℕ → Result Held ℕ → Type 0
TestsManifest by capacity s r = MatchResult r (IsHeldAs by s) (IsNoManifestHeld by capacity s)

-- 59: the certificate has resources of its own (RFC 9286 5.1). Else the manifest isn't held; or it is, and the
-- certificate doesn't name its list, which is 49 (RFC 6487 4.8.6).
abbrev pub IsNoManifest : Authority → ℕ → ObjectParts → KnownView → ℕ → Type 0
IsNoManifest by capacity x known status =
    ((status ≡ not_inherited) × (AreInherited x.cert.tbs.extensions → ⊥))
    ⊎ (AreInherited x.cert.tbs.extensions
    × (IsNoManifestHeld by capacity x.content.content status
    ⊎ ((h : IsManifestHeld by x.content.content) × (status ≡ other_list_uri)
    × (NamesFile by x.cert h.list.file.0 → ⊥))))

-- The octets are a manifest that is valid below the authority: an end entity has signed it (RFC 6488 3), all of whose
-- resources are the authority's (RFC 9286 5.1), and whose certificate names the list that is on the manifest (RFC 6487
-- 4.8.6).
pub record IsManifestBelow (strict : Bool) (by : Authority) (s : List ℕ) : Type 0 where
  pub x : ObjectParts
  pub spelled : (signed_object strict).spells (object_fields_of x) s
  pub type : content_type_number x.content.content_type ≡ 2
  pub known : KnownView
  pub signed : IsSignedBelow by x known
  pub inherited : AreInherited x.cert.tbs.extensions
  pub held : IsManifestHeld by x.content.content
  pub named : NamesFile by x.cert held.list.file.0

abbrev pub TestsManifestBelow : Bool → Authority → ℕ → List ℕ → Result Span ℕ → Type 0
TestsManifestBelow strict by capacity s r =
    MatchResult r (λ files. (m : IsManifestBelow strict by s) × AreFiles m.held.content.files files.octets.now)
    (IsNoObjectBelow 2 strict by (IsNoManifest by capacity) s)

-- the authority with its manifest, which lists these files
abbrev pub with_manifest : Authority → Span → Authority
with_manifest by files = record by { files = files; has_manifest = true }
