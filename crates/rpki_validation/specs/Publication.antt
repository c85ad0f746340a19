-- What is where an authority publishes: its manifest, and its revocation list. Nothing of it is verified yet (RFC
-- 9286 6.2 to 6.5).
use Rattle.std.specs.Prelude.{◌≡◌, ◌≢◌, ◌++◌, ℕ, Bool, false, List, [], ◌∷◌, filter, nat_eq, Option, Some, None, codes}
use Rattle.std.specs.List.{ends_with}
use Rattle.rpki_der.specs.declared.error.DecodeError.{DecodeError}
use Rattle.rpki_der.specs.Prelude.{Format, IsWholeFault}
use Rattle.rpki_text.specs.RsyncText.{RsyncUri, uri_of, joined, joined_uri, join_refusal}
use Rattle.rpki_text.specs.RsyncText.{canonical_module_of, path_of}
use Rattle.rpki_cert.specs.Access.{HasUri, SpellsRsyncAccess, ca_repository, rpki_manifest}
use Rattle.rpki_cert.specs.Cert.{TbsParts}
use Rattle.rpki_cert.specs.Known.{HasNone, subject_info_access}
use Rattle.rpki_contents.specs.ListedFile.{ListedFile}
use Rattle.rpki_contents.specs.Manifest.{ManifestParts}
use Rattle.rpki_crl.specs.Crl.{CrlParts, crl}
use Rattle.rpki_objects.specs.TypedObject.{TypedParts, manifest_object}
use Rattle.rpki_validation.specs.declared.reason.Reason.{Reason}
use Rattle.rpki_validation.specs.declared.reason.Reason.TheVariants.{MissingAnchor, NoRepository, NoManifest, Missing}
use Rattle.rpki_validation.specs.declared.reason.Reason.TheVariants.{NoList, MissingFile, OtherFile, LongUri}
use Rattle.rpki_validation.specs.declared.reason.Reason.TheVariants.{MalformedCert, Malformed, Invalid}
use Rattle.rpki_validation.specs.Snapshot.{Published}

-- ---- where an authority publishes

-- its folder, and its manifest, as its certificate says (RFC 6487 4.8.8.1)
abbrev pub HasRepository : TbsParts → List ℕ → Type 0
HasRepository t uri = HasUri subject_info_access (SpellsRsyncAccess ca_repository) t.extensions (Some uri)

abbrev pub HasManifest : TbsParts → List ℕ → Type 0
HasManifest t uri = HasUri subject_info_access (SpellsRsyncAccess rpki_manifest) t.extensions (Some uri)

-- the text of a place: that of its URI, the scheme and the authority in lower case, since URIs that differ only in the
-- case of these are one (RFC 5781 2)
abbrev pub place_text : List ℕ → List ℕ
place_text uri = canonical_module_of uri ++ path_of uri

-- one of these URIs is at the place
abbrev pub IsAt : (List ℕ → Type 0) → List ℕ → Type 0
IsAt Has place = (uri : List ℕ) × Has uri × (place_text uri ≡ place)

-- the certificate says no such URI; or something that is malformed
abbrev pub SaysNoUri : (Option (List ℕ) → List ℕ → Type 0) → TbsParts → Type 0
SaysNoUri G t = HasUri subject_info_access G t.extensions None

abbrev pub SaysOther : (Option (List ℕ) → List ℕ → Type 0) → TbsParts → Type 0
SaysOther G t = HasNone subject_info_access false G t.extensions

-- ---- what is at a URI

-- this value, and nothing else
pub record ValueAt {V : Type 0} (published : Published) (F : Format V) (uri : RsyncUri) (v : V) : Type 0 where
  pub octets : List ℕ
  pub stands : published.objects uri ≡ Some octets
  pub spells : F.spells v octets

-- A file of a manifest, in this folder: octets with its digest are under its name, and the URI is not too long (RFC
-- 9286 6.4, 6.5).
pub record StandsAs (published : Published) (sha256 : List ℕ → List ℕ) (folder : List ℕ) (file : ListedFile)
    (octets : List ℕ) : Type 0 where
  pub short : join_refusal folder file.0 ≡ None
  pub stands : published.objects (joined_uri (uri_of folder) file.0) ≡ Some octets
  pub same : sha256 octets ≡ file.1

-- its URI, where it isn't too long
pub record IsFileUri (folder : List ℕ) (file : ListedFile) (uri : List ℕ) : Type 0 where
  pub short : join_refusal folder file.0 ≡ None
  pub is : uri ≡ joined folder file.0

-- ---- the revocation list

-- by its name a file is a list (RFC 6481 2.2)
abbrev pub is_list : ListedFile → Bool
is_list file = ends_with nat_eq file.0 (codes ".crl")

-- the one element
abbrev pub only : {V : Type 0} → List V → Option V
only [] = None
only (x ∷ []) = Some x
only (x ∷ y ∷ zs) = None

-- the one file that is a list by its name: a manifest with none, or with more, has none that counts (RFC 6481 2.2)
abbrev pub list_file : List ListedFile → Option ListedFile
list_file files = only (filter is_list files)

-- the manifest's list: its file is there, and is a list
pub record IsListOn (published : Published) (sha256 : List ℕ → List ℕ) (folder : List ℕ) (files : List ListedFile)
    (list : CrlParts) : Type 0 where
  pub file : ListedFile
  pub listed : list_file files ≡ Some file
  pub octets : List ℕ
  pub stands : StandsAs published sha256 folder file octets
  pub spells : crl.spells list octets

-- ---- both

-- the folder, the manifest and the list
pub record PublicationParts : Type 0 where
  pub folder : List ℕ
  pub manifest : TypedParts ManifestParts
  pub list : CrlParts

abbrev pub publication : List ℕ → TypedParts ManifestParts → CrlParts → PublicationParts
publication folder manifest list = record { folder = folder; manifest = manifest; list = list }

-- The certificate names the folder and the manifest. At the manifest's URI is the manifest, and in the folder its
-- list.
pub record IsPublication (published : Published) (sha256 : List ℕ → List ℕ) (strict : Bool) (t : TbsParts)
    (p : PublicationParts) : Type 0 where
  pub repository : HasRepository t p.folder
  pub place : List ℕ
  pub named : HasManifest t place
  pub manifest : ValueAt published (manifest_object strict) (uri_of place) p.manifest
  pub list : IsListOn published sha256 p.folder p.manifest.content.files p.list

-- ---- why it isn't there

-- the certificate says no folder; no manifest; or something that is malformed
abbrev pub IsNoRepository : TbsParts → Reason → Type 0
IsNoRepository t MissingAnchor = ⊥
IsNoRepository t NoRepository = SaysNoUri (SpellsRsyncAccess ca_repository) t
IsNoRepository t NoManifest = ⊥
IsNoRepository t Missing = ⊥
IsNoRepository t NoList = ⊥
IsNoRepository t (MissingFile uri) = ⊥
IsNoRepository t (OtherFile uri) = ⊥
IsNoRepository t LongUri = ⊥
IsNoRepository t (MalformedCert q) = ⊥
IsNoRepository t (Malformed e) = ⊥
IsNoRepository t (Invalid e) = SaysOther (SpellsRsyncAccess ca_repository) t

abbrev pub IsNoManifestPlace : TbsParts → Reason → Type 0
IsNoManifestPlace t MissingAnchor = ⊥
IsNoManifestPlace t NoRepository = ⊥
IsNoManifestPlace t NoManifest = SaysNoUri (SpellsRsyncAccess rpki_manifest) t
IsNoManifestPlace t Missing = ⊥
IsNoManifestPlace t NoList = ⊥
IsNoManifestPlace t (MissingFile uri) = ⊥
IsNoManifestPlace t (OtherFile uri) = ⊥
IsNoManifestPlace t LongUri = ⊥
IsNoManifestPlace t (MalformedCert q) = ⊥
IsNoManifestPlace t (Malformed e) = ⊥
IsNoManifestPlace t (Invalid e) = SaysOther (SpellsRsyncAccess rpki_manifest) t

-- nothing is at the URI; or what is there is none of F, with this error
abbrev pub IsNoValue : {V : Type 0} → Published → Format V → RsyncUri → Reason → Type 0
IsNoValue published F uri MissingAnchor = ⊥
IsNoValue published F uri NoRepository = ⊥
IsNoValue published F uri NoManifest = ⊥
IsNoValue published F uri Missing = published.objects uri ≡ None
IsNoValue published F uri NoList = ⊥
IsNoValue published F uri (MissingFile text) = ⊥
IsNoValue published F uri (OtherFile text) = ⊥
IsNoValue published F uri LongUri = ⊥
IsNoValue published F uri (MalformedCert q) = ⊥
IsNoValue published F uri (Malformed e) =
    (octets : List ℕ) × (published.objects uri ≡ Some octets) × IsWholeFault F.spells F.fault octets e
IsNoValue published F uri (Invalid e) = ⊥

-- the URI of a file would be none, or too long
abbrev pub IsNoFileUri : List ℕ → ListedFile → Reason → Type 0
IsNoFileUri folder file reason = (join_refusal folder file.0 ≢ None) × (reason ≡ LongUri)

-- of a file of a manifest: its URI would be no URI, or too long; nothing is there; or octets with another digest
abbrev pub IsNoFile : Published → (List ℕ → List ℕ) → List ℕ → ListedFile → Reason → Type 0
IsNoFile published sha256 folder file MissingAnchor = ⊥
IsNoFile published sha256 folder file NoRepository = ⊥
IsNoFile published sha256 folder file NoManifest = ⊥
IsNoFile published sha256 folder file Missing = ⊥
IsNoFile published sha256 folder file NoList = ⊥
IsNoFile published sha256 folder file (MissingFile uri) =
    (uri ≡ joined folder file.0) × (published.objects (joined_uri (uri_of folder) file.0) ≡ None)
IsNoFile published sha256 folder file (OtherFile uri) =
    (uri ≡ joined folder file.0)
    × ((octets : List ℕ) × (published.objects (joined_uri (uri_of folder) file.0) ≡ Some octets)
    × (sha256 octets ≢ file.1))
IsNoFile published sha256 folder file LongUri = join_refusal folder file.0 ≢ None
IsNoFile published sha256 folder file (MalformedCert q) = ⊥
IsNoFile published sha256 folder file (Malformed e) = ⊥
IsNoFile published sha256 folder file (Invalid e) = ⊥

-- of the list: the manifest has none, or more than one; its file isn't there; or is no list
pub data IsNoListOn (published : Published) (sha256 : List ℕ → List ℕ) (folder : List ℕ) (files : List ListedFile)
    : Reason → Type 0 where
  NoneListed : list_file files ≡ None → IsNoListOn published sha256 folder files NoList
  NotThere : {reason : Reason} (file : ListedFile) → list_file files ≡ Some file
      → IsNoFile published sha256 folder file reason → IsNoListOn published sha256 folder files reason
  NoListThere : {e : DecodeError} (file : ListedFile) (octets : List ℕ) → list_file files ≡ Some file
      → StandsAs published sha256 folder file octets → IsWholeFault crl.spells crl.fault octets e
      → IsNoListOn published sha256 folder files (Malformed e)

-- of a publication: of its folder, of the manifest, or of the list; of the first of them that isn't there
pub data IsNoPublication (published : Published) (sha256 : List ℕ → List ℕ) (strict : Bool) (t : TbsParts)
    : Reason → Type 0 where
  OfFolder : {reason : Reason} → IsNoRepository t reason → IsNoPublication published sha256 strict t reason
  OfPlace : {reason : Reason} (folder : List ℕ) → HasRepository t folder → IsNoManifestPlace t reason
      → IsNoPublication published sha256 strict t reason
  OfManifest : {reason : Reason} (folder : List ℕ) (place : List ℕ) → HasRepository t folder → HasManifest t place
      → IsNoValue published (manifest_object strict) (uri_of place) reason
      → IsNoPublication published sha256 strict t reason
  OfList : {reason : Reason} (folder : List ℕ) (place : List ℕ) (manifest : TypedParts ManifestParts)
      → HasRepository t folder → HasManifest t place
      → ValueAt published (manifest_object strict) (uri_of place) manifest
      → IsNoListOn published sha256 folder manifest.content.files reason
      → IsNoPublication published sha256 strict t reason
