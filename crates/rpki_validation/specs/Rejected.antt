-- Why a file of a point doesn't count, or all that an authority publishes.
use Rattle.std.specs.Prelude.{◌≡◌, ◌⊎◌, ◌≤◌, ℕ, true, false, List, Some, nat_eq, codes}
use Rattle.std.specs.List.{Contains, ends_with}
use Rattle.rpki_text.specs.RsyncText.{joined}
use Rattle.rpki_contents.specs.Aspa.{AspaParts}
use Rattle.rpki_contents.specs.ListedFile.{ListedFile}
use Rattle.rpki_contents.specs.Roa.{AttestationParts}
use Rattle.rpki_crl.specs.Crl.{CrlParts}
use Rattle.rpki_objects.specs.TypedObject.{TypedParts}
use Rattle.rpki_valid.specs.Verified.{Holder}
use Rattle.rpki_locator.specs.declared.anchor_uri.AnchorUri.{AnchorUri}
use Rattle.rpki_validation.specs.declared.outcome.Rejection.{Rejection}
use Rattle.rpki_validation.specs.declared.reason.Reason.{Reason}
use Rattle.rpki_validation.specs.Alike.{AreAlike}
use Rattle.rpki_validation.specs.Basis.{Basis}
use Rattle.rpki_validation.specs.Counts.{CountsAt}
use Rattle.rpki_validation.specs.Finding.{IsNone}
use Rattle.rpki_validation.specs.Issued.{AreOriginsIn, AreNoOriginsIn, AreProvidersIn, AreNoProvidersIn, IsCountedCert}
use Rattle.rpki_validation.specs.Issued.{IsNoCertIn}
use Rattle.rpki_validation.specs.Met.{IsPlace}
use Rattle.rpki_validation.specs.Noting.{Noted}
use Rattle.rpki_validation.specs.Point.{HoldsAtMoment, IsIncomplete, IsNoMoment, IsPoint}
use Rattle.rpki_validation.specs.Publication.{HasManifest, IsNoPublication, IsPublication, PublicationParts, StandsAs}
use Rattle.rpki_validation.specs.Snapshot.{Published}

-- ---- files, by the ends of their names

abbrev pub Ends : ListedFile → List ℕ → Type 0
Ends file end = ends_with nat_eq file.0 end ≡ true

-- a file with these octets that doesn't count, and why
pub data IsWrongFile (depth : ℕ) (basis : Basis) (issuer : Holder) (list : CrlParts) (file : ListedFile)
    (octets : List ℕ) (reason : Reason) : Type 0 where
  NoOrigins : Ends file (codes ".roa") → IsNone (AreOriginsIn basis issuer list octets)
      → AreNoOriginsIn basis issuer list octets reason → IsWrongFile depth basis issuer list file octets reason
  NoProviders : Ends file (codes ".asa") → IsNone (AreProvidersIn basis issuer list octets)
      → AreNoProvidersIn basis issuer list octets reason → IsWrongFile depth basis issuer list file octets reason
  NoCert : Ends file (codes ".cer") → IsNone (IsCountedCert depth basis issuer list octets)
      → IsNoCertIn depth basis issuer list octets reason → IsWrongFile depth basis issuer list file octets reason

-- one that counts; of a file whose name ends otherwise nothing is asked
pub record IsRightFile (depth : ℕ) (basis : Basis) (issuer : Holder) (list : CrlParts) (file : ListedFile)
    (octets : List ℕ) : Type 0 where
  pub origins : Ends file (codes ".roa")
      → (x : TypedParts AttestationParts) × AreOriginsIn basis issuer list octets x
  pub providers : Ends file (codes ".asa") → (x : TypedParts AspaParts) × AreProvidersIn basis issuer list octets x
  pub cert : Ends file (codes ".cer") → (x : Holder) × IsCountedCert depth basis issuer list octets x

-- ---- points

-- why the authority has no point: what it publishes isn't there; doesn't hold at the moment; or isn't whole (RFC 9286
-- 6.2 to 6.6)
pub data IsNoPoint (published : Published) (basis : Basis) (issuer : Holder) (reason : Reason) : Type 0 where
  NotThere : IsNoPublication published basis.by.sha256 basis.terms.strictness.attributes issuer.cert.tbs reason
      → IsNoPoint published basis issuer reason
  NotAtMoment : (p : PublicationParts)
      → IsPublication published basis.by.sha256 basis.terms.strictness.attributes issuer.cert.tbs p
      → IsNoMoment basis issuer p reason → IsNoPoint published basis issuer reason
  NotWhole : (p : PublicationParts)
      → IsPublication published basis.by.sha256 basis.terms.strictness.attributes issuer.cert.tbs p
      → HoldsAtMoment basis issuer p → IsIncomplete published basis.by.sha256 p.folder p.manifest.content.files reason
      → IsNoPoint published basis issuer reason

-- ---- rejections

-- all that the authority publishes is rejected
pub record IsPointRejection (published : Published) (basis : Basis) (issuer : Holder) (r : Rejection) : Type 0 where
  pub whole : r.is_point ≡ true
  pub place : IsPlace (HasManifest issuer.cert.tbs) r.uri
  pub none : IsNone (IsPoint published basis issuer)
  pub why : IsNoPoint published basis issuer r.reason

-- a file with these octets of a point is
pub record IsRejectedFile (depth : ℕ) (basis : Basis) (issuer : Holder) (p : PublicationParts) (file : ListedFile)
    (octets : List ℕ) (r : Rejection) : Type 0 where
  pub alone : r.is_point ≡ false
  pub place : r.uri ≡ Some (joined p.folder file.0)
  pub why : IsWrongFile depth basis issuer p.list file octets r.reason

-- one of the files of its point is
pub record IsFileRejection (published : Published) (basis : Basis) (depth : ℕ) (issuer : Holder) (r : Rejection)
    : Type 0 where
  pub point : PublicationParts
  pub published_there : IsPoint published basis issuer point
  pub file : ListedFile
  pub listed : Contains point.manifest.content.files file
  pub octets : List ℕ
  pub stands : StandsAs published basis.by.sha256 point.folder file octets
  pub rejected : IsRejectedFile depth basis issuer point file octets r

-- the one or the other, of an authority so many steps below the trust anchor
abbrev pub IsRejectionOf : Published → Basis → ℕ → Holder → Rejection → Type 0
IsRejectionOf published basis depth issuer r =
    IsPointRejection published basis issuer r ⊎ IsFileRejection published basis depth issuer r

-- among these is all that is rejected of the authority: what it publishes, where it has no point; and each file of its
-- point that doesn't count
pub record AreNoted (published : Published) (basis : Basis) (depth : ℕ) (issuer : Holder) (all : List Rejection)
    : Type 0 where
  pub point : IsNone (IsPoint published basis issuer) → Noted (IsPointRejection published basis issuer) all
  pub files : (p : PublicationParts) → IsPoint published basis issuer p → (file : ListedFile)
      → Contains p.manifest.content.files file → (octets : List ℕ)
      → StandsAs published basis.by.sha256 p.folder file octets
      → IsRightFile depth basis issuer p.list file octets
      ⊎ Noted (IsRejectedFile depth basis issuer p file octets) all

-- ---- under a locator with these URIs

-- a rejection of an authority that counts
pub record IsRejection (published : Published) (basis : Basis) (uris : List AnchorUri) (r : Rejection) : Type 0 where
  pub steps : ℕ
  pub few : steps ≤ basis.terms.deepest
  pub issuer : Holder
  pub counted : CountsAt published basis uris steps issuer
  pub rejected : IsRejectionOf published basis steps issuer r

-- among these is all that is rejected of an authority that counts, and is alike
pub record IsNotedUnder (published : Published) (basis : Basis) (uris : List AnchorUri) (all : List Rejection)
    (x : Holder) : Type 0 where
  pub steps : ℕ
  pub few : steps ≤ basis.terms.deepest
  pub issuer : Holder
  pub alike : AreAlike issuer x
  pub counted : CountsAt published basis uris steps issuer
  pub noted : AreNoted published basis steps issuer all
