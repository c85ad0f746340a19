-- Publication points: what an authority publishes, where all of it is there and holds at the moment (RFC 9286 6).
use Rattle.std.specs.Prelude.{◌≡◌, ◌⊎◌, ℕ, true, List, [], ◌∷◌, Some, nat_eq, Result, MatchResult, codes}
use Rattle.std.specs.List.{Contains, ends_with}
use Rattle.rpki.specs.declared.repository.error.ValidationError.{ValidationError}
use Rattle.rpki_cert.specs.Access.{HasUri, SpellsPoints}
use Rattle.rpki_cert.specs.Cert.{TbsParts}
use Rattle.rpki_cert.specs.Known.{crl_distribution_points}
use Rattle.rpki_contents.specs.ListedFile.{ListedFile}
use Rattle.rpki_text.specs.RsyncText.{uri_of}
use Rattle.rpki_valid.specs.declared.resource.set.ResourceSet.{ResourceSet}
use Rattle.rpki_valid.specs.declared.staleness.Staleness.TheVariants.{Refused}
use Rattle.rpki_valid.specs.CrlIssued.{IsIssuedBy, IsRefusedList}
use Rattle.rpki_valid.specs.ObjectVerified.{IsValidObject, IsInvalidObject}
use Rattle.rpki_valid.specs.Processed.{IsProcessed, IsUnprocessed, KeepsManifestRules, BreaksManifestRules}
use Rattle.rpki_valid.specs.Valid.{HasReason}
use Rattle.rpki_valid.specs.Verified.{Holder}
use Rattle.rpki_validation.specs.declared.reason.Reason.{Reason}
use Rattle.rpki_validation.specs.declared.stop.Stop.{Stop}
use Rattle.rpki_validation.specs.Basis.{Basis, verified_at}
use Rattle.rpki_validation.specs.Finding.{IsObjectReason, StopsAt}
use Rattle.rpki_validation.specs.Publication.{IsFileUri, IsNoFile, IsPublication, PublicationParts, StandsAs, list_file}
use Rattle.rpki_validation.specs.Snapshot.{Published}

-- ---- all files

-- the octets of these files, in their order
abbrev pub AreOctetsOf : Published → (List ℕ → List ℕ) → List ℕ → List ListedFile → List (List ℕ) → Type 0
AreOctetsOf published sha256 folder [] [] = Unit {0}
AreOctetsOf published sha256 folder [] (o ∷ os) = ⊥
AreOctetsOf published sha256 folder (file ∷ files) [] = ⊥
AreOctetsOf published sha256 folder (file ∷ files) (o ∷ os) =
    StandsAs published sha256 folder file o × AreOctetsOf published sha256 folder files os

-- one of them isn't there, and this is the reason of the first that isn't
abbrev pub IsIncomplete : Published → (List ℕ → List ℕ) → List ℕ → List ListedFile → Reason → Type 0
IsIncomplete published sha256 folder [] reason = ⊥
IsIncomplete published sha256 folder (file ∷ files) reason =
    IsNoFile published sha256 folder file reason
    ⊎ (((octets : List ℕ) × StandsAs published sha256 folder file octets)
    × IsIncomplete published sha256 folder files reason)

-- ---- a publication that holds

-- where the revocation list of its issuer is, as the certificate says (RFC 6487 4.8.6)
abbrev pub NamesList : TbsParts → List ℕ → Type 0
NamesList t uri = HasUri crl_distribution_points SpellsPoints t.extensions (Some uri)

-- where the list is that is on the manifest
pub record IsListUri (p : PublicationParts) (uri : List ℕ) : Type 0 where
  pub file : ListedFile
  pub listed : list_file p.manifest.content.files ≡ Some file
  pub is : IsFileUri p.folder file uri

-- the certificate of the manifest names the list that is on the manifest
pub record NamesItsList (p : PublicationParts) : Type 0 where
  pub uri : List ℕ
  pub list : IsListUri p uri
  pub other : List ℕ
  pub names : NamesList p.manifest.object.cert.tbs other
  pub same : uri_of other ≡ uri_of uri

-- the manifest holds at the moment, and isn't revoked
abbrev pub HoldsManifest : Basis → Holder → PublicationParts → ResourceSet → Type 0
HoldsManifest basis issuer p =
    IsProcessed (IsValidObject (Some p.list) (verified_at basis issuer) basis.at p.manifest.object)
    (λ _. KeepsManifestRules basis.at p.manifest)

-- The authority has issued the list, which counts at the moment, and the manifest, which holds at the moment, isn't
-- revoked, and names the list.
pub record HoldsAtMoment (basis : Basis) (issuer : Holder) (p : PublicationParts) : Type 0 where
  pub list : IsIssuedBy Refused (verified_at basis issuer) basis.at p.list
  pub held : ResourceSet
  pub manifest : HoldsManifest basis issuer p held
  pub named : NamesItsList p

-- of its manifest, which isn't valid; or which is, but breaks a rule
abbrev pub IsNoManifestOf : Basis → Holder → PublicationParts → ValidationError → Type 0
IsNoManifestOf basis issuer p =
    let valid = IsValidObject (Some p.list) (verified_at basis issuer) basis.at p.manifest.object in
    let invalid = IsInvalidObject (Some p.list) (verified_at basis issuer) basis.at p.manifest.object in
    IsUnprocessed valid invalid (λ _. BreaksManifestRules basis.at p.manifest)

-- of its list, which the authority hasn't issued, or which doesn't count
abbrev pub IsNoListOf : Basis → Holder → PublicationParts → ValidationError → Type 0
IsNoListOf basis issuer p = IsRefusedList Refused (verified_at basis issuer) basis.at p.list

-- of its manifest, which holds, but whose certificate names another list
abbrev pub other_list_text : List ℕ
other_list_text = codes "RFC 6487 4.8.6: another revocation list is named"

abbrev pub IsOtherList : Basis → Holder → PublicationParts → ValidationError → Type 0
IsOtherList basis issuer p e =
    ((held : ResourceSet) × HoldsManifest basis issuer p held) × (NamesItsList p → ⊥) × HasReason other_list_text e

-- of the list; or, where that counts, of the manifest
abbrev pub IsNoMoment : Basis → Holder → PublicationParts → Reason → Type 0
IsNoMoment basis issuer p =
    IsObjectReason (λ e. ⊥)
    (λ e. IsNoListOf basis issuer p e
    ⊎ (IsIssuedBy Refused (verified_at basis issuer) basis.at p.list
    × (IsNoManifestOf basis issuer p e ⊎ IsOtherList basis issuer p e)))

-- a check that both hold
abbrev pub VerifiesPublication : {X : Type 0} → Basis → Holder → PublicationParts → Result X Stop → Type 0
VerifiesPublication basis issuer p r =
    MatchResult r (λ _. HoldsAtMoment basis issuer p)
    (StopsAt (λ (v : Unit {0}). HoldsAtMoment basis issuer p) (IsNoMoment basis issuer p))

-- ---- points

-- The publication of the authority, which holds at the moment, and of whose manifest each file is there (RFC 9286 6.4,
-- 6.5). Where one isn't, nothing of the authority counts (6.6).
pub record IsPoint (published : Published) (basis : Basis) (issuer : Holder) (p : PublicationParts) : Type 0 where
  pub there : IsPublication published basis.by.sha256 basis.terms.strictness.attributes issuer.cert.tbs p
  pub valid : HoldsAtMoment basis issuer p
  pub whole : (file : ListedFile) → Contains p.manifest.content.files file
      → (octets : List ℕ) × StandsAs published basis.by.sha256 p.folder file octets

-- a file of the point with these octets, whose name ends so
pub record IsFile (published : Published) (basis : Basis) (p : PublicationParts) (end : List ℕ) (octets : List ℕ)
    : Type 0 where
  pub file : ListedFile
  pub listed : Contains p.manifest.content.files file
  pub ends : ends_with nat_eq file.0 end ≡ true
  pub stands : StandsAs published basis.by.sha256 p.folder file octets
