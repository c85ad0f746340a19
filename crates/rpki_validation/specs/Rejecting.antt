-- What steps of a walk promise of rejections.
use Rattle.std.specs.Prelude.{◌≡◌, ◌++◌, ℕ, true, false, List, [], ◌∷◌, Option, Some, None, Result}
use Rattle.std.specs.Prelude.{MatchResult, codes}
use Rattle.jiff.specs.Types.{DateTime}
use Rattle.rpki.specs.Checkers.{Models}
use Rattle.rpki_cert.specs.declared.profile.Profile.TheVariants.{Ca}
use Rattle.rpki_cert.specs.Cert.{TbsParts}
use Rattle.rpki_contents.specs.ListedFile.{ListedFile}
use Rattle.rpki_text.specs.RsyncText.{joined, join_refusal}
use Rattle.rpki_valid.specs.CrlIssued.{CountsAt, InForce}
use Rattle.rpki_valid.specs.Verified.{Authority, Holder}
use Rattle.rpki_validation.specs.declared.outcome.Outcome.{Outcome}
use Rattle.rpki_validation.specs.declared.outcome.Rejection.{Rejection}
use Rattle.rpki_validation.specs.declared.reason.Reason.{Reason}
use Rattle.rpki_validation.specs.declared.stop.Stop.{Stop}
use Rattle.rpki_validation.specs.declared.stop.Stop.TheVariants.{Rejected, OutOfMemory}
use Rattle.rpki_validation.specs.Adding.{IsCertHere, IsSaidBy}
use Rattle.rpki_validation.specs.Basis.{Basis, basis_in, basis_of, holder_of}
use Rattle.rpki_validation.specs.Finding.{StopsAt}
use Rattle.rpki_validation.specs.Holding.{HoldsAbove, IsPeriodUnder}
use Rattle.rpki_validation.specs.Issued.{AreOriginsIn, AreNoOriginsIn, AreProvidersIn, AreNoProvidersIn, IsCountedCert}
use Rattle.rpki_validation.specs.Issued.{IsNoCertIn}
use Rattle.rpki_validation.specs.Met.{IsPlace}
use Rattle.rpki_validation.specs.Noting.{AddsOnly, AnyPair, Notes, Within}
use Rattle.rpki_validation.specs.Point.{IsPoint}
use Rattle.rpki_validation.specs.Publication.{HasManifest}
use Rattle.rpki_validation.specs.Reached.{IsBelow}
use Rattle.rpki_validation.specs.Rejected.{AreNoted, IsNoPoint, IsRejectionOf, IsRightFile, IsWrongFile}
use Rattle.rpki_validation.specs.Snapshot.{Published, Where}
use Rattle.rpki_validation.specs.Taking.{Among}

-- ---- steps

-- something is found that P is true of; or nothing is, and why
abbrev pub IsSettled : {R V : Type 0} → (V → Type 0) → (Reason → Type 0) → Result R Stop → Type 0
IsSettled {R} {V} P K r = MatchResult r (λ _. (v : V) × P v) (StopsAt P K)

-- K is true of the reason; or allocation failed
abbrev pub StopsBy : (Reason → Type 0) → Stop → Type 0
StopsBy K (Rejected reason) = K reason
StopsBy K OutOfMemory = Unit {0}

-- ---- notes

-- the note of a file in this folder
pub record IsFileNote (folder : List ℕ) (file : ListedFile) (reason : Reason) (r : Rejection) : Type 0 where
  pub alone : r.is_point ≡ false
  pub place : join_refusal folder file.0 ≡ None → r.uri ≡ Some (joined folder file.0)
  pub why : r.reason ≡ reason

-- that of all that the subject of a certificate publishes
pub record IsPointNote (t : TbsParts) (reason : Reason) (r : Rejection) : Type 0 where
  pub whole : r.is_point ≡ true
  pub place : IsPlace (HasManifest t) r.uri
  pub why : r.reason ≡ reason

-- one is added that P is true of
abbrev pub AddsNote : (Rejection → Type 0) → List Rejection → List Rejection → Type 0
AddsNote P old new = (r : Rejection) × (new ≡ old ++ r ∷ []) × P r

-- ---- under a list that counts

module _ {X : Type 0} (models : Models X) (c : InForce X) where
  -- the octets are an attestation of route origins; or why not
  abbrev pub SettlesOrigins : {R : Type 0} → List ℕ → Result R Stop → Type 0
  SettlesOrigins octets =
      let basis = basis_in models c in
      IsSettled (AreOriginsIn basis (holder_of c.issuer) c.list octets)
      (AreNoOriginsIn basis (holder_of c.issuer) c.list octets)

  -- one of providers
  abbrev pub SettlesProviders : {R : Type 0} → List ℕ → Result R Stop → Type 0
  SettlesProviders octets =
      let basis = basis_in models c in
      IsSettled (AreProvidersIn basis (holder_of c.issuer) c.list octets)
      (AreNoProvidersIn basis (holder_of c.issuer) c.list octets)

  -- a certificate that counts
  abbrev pub SettlesCert : {R : Type 0} → List ℕ → Result R Stop → Type 0
  SettlesCert octets =
      let basis = basis_in models c in
      IsSettled (IsCountedCert c.issuer.depth basis (holder_of c.issuer) c.list octets)
      (IsNoCertIn c.issuer.depth basis (holder_of c.issuer) c.list octets)

  abbrev pub IsRightHere : ListedFile → List ℕ → Type 0
  IsRightHere = IsRightFile c.issuer.depth (basis_in models c) (holder_of c.issuer) c.list

  abbrev pub IsWrongHere : ListedFile → List ℕ → Reason → Type 0
  IsWrongHere = IsWrongFile c.issuer.depth (basis_in models c) (holder_of c.issuer) c.list

  -- a file that counts; or why not
  abbrev pub SettlesFile : {R : Type 0} → ListedFile → List ℕ → Result R Stop → Type 0
  SettlesFile file octets r = MatchResult r (λ _. IsRightHere file octets) (StopsBy (IsWrongHere file octets))

  -- the note of a file in this folder, which doesn't count
  pub record IsNotedHere (folder : List ℕ) (file : ListedFile) (octets : List ℕ) (r : Rejection) : Type 0 where
    pub note : IsFileNote folder file r.reason r
    pub wrong : IsWrongHere file octets r.reason

  -- notes of files with their octets
  abbrev pub RejectsFiles : List ℕ → List ListedFile → List (List ℕ) → List Rejection → List Rejection → Type 0
  RejectsFiles folder = Notes IsRightHere (IsNotedHere folder)

  abbrev pub RejectsAll : List ℕ → List ListedFile → List (List ℕ) → Outcome → Outcome → Type 0
  RejectsAll folder files octets old new = RejectsFiles folder files octets old.rejections.items new.rejections.items

  -- octets say the authority, in the period of its path
  abbrev pub IsChildHere : List ℕ → Authority X → Type 0
  IsChildHere octets a = IsCertHere models c Ca (holder_of a) octets × IsPeriodUnder (CountsAt c) a.cert a.period

  -- an authority that is added is one that a file says
  abbrev pub IsChildOf : ListedFile → List ℕ → Authority X → Type 0
  IsChildOf file octets a = IsSaidBy (codes ".cer") (λ o. IsChildHere o a) file octets

  abbrev pub AddsChildren : List ListedFile → List (List ℕ) → List (Authority X) → List (Authority X) → Type 0
  AddsChildren files octets = AddsOnly (λ a. AnyPair (λ file one. IsChildOf file one a) files octets)

-- ---- of an authority

-- All that is rejected of these authorities, each so many steps below the trust anchor, is added, and nothing else; and
-- nothing is taken away.
pub record Rejects (published : Published) (basis : Basis) (depth : ℕ) (Level : Holder → Type 0)
    (old new : List Rejection) : Type 0 where
  pub each : AddsOnly (Among Level (IsRejectionOf published basis depth)) old new
  pub all : (x : Holder) → Level x → AreNoted published basis depth x new
  pub kept : Within old new

abbrev pub Only : Holder → Holder → Type 0
Only x y = x ≡ y

-- the one authority is below the other, and this is the period of its path
abbrev pub IsChild : {X : Type 0} → Published → Basis → Authority X → Authority X → Type 0
IsChild published basis issuer a =
    (below : IsBelow published basis (holder_of issuer) (holder_of a))
    × IsPeriodUnder (HoldsAbove issuer.period below.point.list) a.cert a.period

module _ {X : Type 0} (models : Models X) (known : Option Published)
    (issuer : Authority X) (at : DateTime) where
  -- all that is rejected of the authority
  abbrev pub RejectsOf : List Rejection → List Rejection → Type 0
  RejectsOf old new =
      Where known (λ published. Rejects published (basis_of models issuer at) issuer.depth
      (Only (holder_of issuer)) old new)

  abbrev pub RejectsIn : Outcome → Outcome → Type 0
  RejectsIn old new = RejectsOf old.rejections.items new.rejections.items

  -- its point is looked at; or why there is none
  abbrev pub SettlesPoint : {R : Type 0} → List Rejection → List Rejection → Result R Stop → Type 0
  SettlesPoint old new r =
      let basis = basis_of models issuer at in
      Where known (λ published. MatchResult r
      (λ _. Rejects published basis issuer.depth (Only (holder_of issuer)) old new)
      (StopsAt (IsPoint published basis (holder_of issuer)) (IsNoPoint published basis (holder_of issuer))))

  -- an authority that is added is below it
  abbrev pub AddsBelow : List (Authority X) → List (Authority X) → Type 0
  AddsBelow old new =
      Where known (λ published.
      AddsOnly (IsChild published (basis_of models issuer at) issuer) old new)
