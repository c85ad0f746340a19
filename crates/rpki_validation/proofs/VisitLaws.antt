-- What the point of an authority says is what the files of its one publication say.
use Rattle.std.proofs.Common.{◌≡◌, ◌⊎◌, ◌<◌, inl, inr, ℕ, true, List, [], ◌∷◌, Option, Some, nat_eq, subst, sym, ◌∙◌}
use Rattle.std.proofs.Common.{codes}
use Rattle.std.specs.List.{Contains, ends_with}
use Rattle.jiff.specs.Types.{DateTime}
use Rattle.rpki.specs.Checkers.{Models}
use Rattle.rpki_cert.specs.declared.profile.Profile.TheVariants.{Ca, Router}
use Rattle.rpki_contents.specs.ListedFile.{ListedFile}
use Rattle.rpki_crl.specs.Crl.{CrlParts}
use Rattle.rpki_valid.specs.declared.staleness.Staleness.TheVariants.{Refused}
use Rattle.rpki_valid.specs.CrlIssued.{InForce, in_force}
use Rattle.rpki_valid.specs.Verified.{Authority, Holder}
use Rattle.rpki_validation.specs.declared.reason.Reason.{Reason}
use Rattle.rpki_validation.specs.declared.stop.Stop.{Stop}
use Rattle.rpki_validation.specs.Adding.{AddsFiles, AddsSaid, Found, IsSaidAmong, IsSaidBy, UnlessMemory}
use Rattle.rpki_validation.specs.Basis.{Basis, basis_of, holder_of}
use Rattle.rpki_validation.specs.Finding.{IsNone, IsSole, StopsAt}
use Rattle.rpki_validation.specs.Issued.{AreProvidersIn, IsCertIn}
use Rattle.rpki_validation.specs.Sisters.{AreSistersBelow}
use Rattle.rpki_validation.specs.Point.{AreOctetsOf, HoldsAtMoment, IsFile, IsPoint}
use Rattle.rpki_validation.specs.Publication.{IsPublication, PublicationParts, StandsAs}
use Rattle.rpki_validation.specs.Reached.{IsBelow}
use Rattle.rpki_validation.specs.Said.{IsSaid, SayOrigin, SaysOrigin, SaysProviders, SaysRouter}
use Rattle.rpki_validation.specs.Snapshot.{Published}
use Rattle.rpki_validation.proofs.AddingLaws.{stops-none}
use Rattle.rpki_validation.proofs.MetLaws.{cons-cases, head-in, none-in, tail-in}
use Rattle.rpki_validation.proofs.TakingLaws.{adds-none, adds-same}

-- ---- files with their octets

module _ (published : Published) (sha256 : List ℕ → List ℕ) (folder : List ℕ) where
  abbrev Are : List ListedFile → List (List ℕ) → Type 0
  Are = AreOctetsOf published sha256 folder

  abbrev Stands : ListedFile → List ℕ → Type 0
  Stands = StandsAs published sha256 folder

  same-octets : (o : Option (List ℕ)) (a b : List ℕ) → o ≡ Some a → o ≡ Some b → a ≡ b
  same-octets o a b e d = let s : ◌≡◌ {A = Option (List ℕ)} (Some a) (Some b) = sym e ∙ d in cc

  pub one-stands : (file : ListedFile) (a b : List ℕ) → Stands file a → Stands file b → a ≡ b
  one-stands file a b h k = same-octets _ a b h.stands k.stands

  all-there : (files : List ListedFile) (os : List (List ℕ)) → Are files os → (file : ListedFile) → Contains files file
      → (o : List ℕ) × Stands file o
  all-there [] os h file k = absurd (none-in file k)
  all-there (f ∷ fs) [] h file k = absurd h
  all-there (f ∷ fs) (o ∷ os) h file k = by (all-there fs os h.1 file) (cons-cases f fs file k) where
    by : (Contains fs file → (q : List ℕ) × Stands file q) → (f ≡ file) ⊎ Contains fs file
        → (q : List ℕ) × Stands file q
    by later (inl e) = (o, subst (λ (g : ListedFile). Stands g o) e h.0)
    by later (inr m) = later m

  octets-of : (files : List ListedFile)
      → ((file : ListedFile) → Contains files file → (o : List ℕ) × Stands file o)
      → (os : List (List ℕ)) × Are files os
  octets-of [] h = ([], tt)
  octets-of (f ∷ fs) h =
      let first = h f (head-in f fs) in
      let more = octets-of fs (λ file m. h file (tail-in f fs file m)) in
      (first.0 ∷ more.0, (first.1, more.1))

  module _ (end : List ℕ) (P : List ℕ → Type 0) where
    -- a file of these whose name ends so, and of whose octets P is true
    record IsAt (files : List ListedFile) : Type 0 where
      pub file : ListedFile
      pub listed : Contains files file
      pub ends : ends_with nat_eq file.0 end ≡ true
      pub octets : List ℕ
      pub stands : Stands file octets
      pub says : P octets

    at-first : (f : ListedFile) (fs : List ListedFile) (o : List ℕ) → Stands f o → IsSaidBy end P f o → IsAt (f ∷ fs)
    at-first f fs o stands h = record {
      file = f;
      listed = head-in f fs;
      ends = h.0;
      octets = o;
      stands = stands;
      says = h.1;
    }

    at-later : (f : ListedFile) (fs : List ListedFile) → IsAt fs → IsAt (f ∷ fs)
    at-later f fs h = record {
      file = h.file;
      listed = tail-in f fs h.file h.listed;
      ends = h.ends;
      octets = h.octets;
      stands = h.stands;
      says = h.says;
    }

    among-out : (files : List ListedFile) (os : List (List ℕ)) → Are files os → IsSaidAmong end P files os → IsAt files
    among-out [] os h k = absurd k
    among-out (f ∷ fs) [] h k = absurd k
    among-out (f ∷ fs) (o ∷ os) h (inl k) = at-first f fs o h.0 k
    among-out (f ∷ fs) (o ∷ os) h (inr k) = at-later f fs (among-out fs os h.1 k)

    among-in : (files : List ListedFile) (os : List (List ℕ)) → Are files os → (file : ListedFile)
        → Contains files file → ends_with nat_eq file.0 end ≡ true → (q : List ℕ) → Stands file q → P q
        → IsSaidAmong end P files os
    among-in [] os h file k ends q stands says = absurd (none-in file k)
    among-in (f ∷ fs) [] h file k ends q stands says = absurd h
    among-in (f ∷ fs) (o ∷ os) h file k ends q stands says =
        by (λ m. among-in fs os h.1 file m ends q stands says) (cons-cases f fs file k) where
          by : (Contains fs file → IsSaidAmong end P fs os) → (f ≡ file) ⊎ Contains fs file
              → IsSaidBy end P f o ⊎ IsSaidAmong end P fs os
          by later (inl e) =
              inl (
                subst (λ (g : ListedFile). ends_with nat_eq g.0 end ≡ true) (sym e) ends,
                subst P (one-stands file q o stands (subst (λ (g : ListedFile). Stands g o) e h.0)) says,
              )
          by later (inr m) = inr (later m)

-- ---- the one publication

module _ (published : Published) (basis : Basis) (x : Holder) where
  abbrev Publishes : PublicationParts → Type 0
  Publishes = IsPublication published basis.by.sha256 basis.terms.strictness.attributes x.cert.tbs

  abbrev Point : PublicationParts → Type 0
  Point = IsPoint published basis x

  module _ (p : PublicationParts) (sole : IsSole Publishes p) where
    abbrev Octets : List (List ℕ) → Type 0
    Octets = AreOctetsOf published basis.by.sha256 p.folder p.manifest.content.files

    one-point : (q : PublicationParts) → Point q → q ≡ p
    one-point q h = sole.sole q h.there

    pub none-holds : IsNone (λ (u : Unit {0}). HoldsAtMoment basis x p) → IsNone Point
    none-holds none q h = none tt (subst (HoldsAtMoment basis x) (one-point q h) h.valid)

    pub none-whole : IsNone Octets → IsNone Point
    none-whole none q h =
        let k = subst Point (one-point q h) h in
        let all = octets-of published basis.by.sha256 p.folder p.manifest.content.files k.whole in
        none all.0 all.1

    module _ (holds : HoldsAtMoment basis x p) (os : List (List ℕ)) (are : Octets os) where
      pub the-point : Point p
      the-point = record {
        there = sole.holds;
        valid = holds;
        whole = all-there published basis.by.sha256 p.folder p.manifest.content.files os are;
      }

      module _ (end : List ℕ) (P : PublicationParts → List ℕ → Type 0) where
        pub said-in : IsSaid published basis end x P → IsSaidAmong end (P p) p.manifest.content.files os
        said-in h =
            let e = one-point h.point h.file.published_there in
            let file = subst (λ (q : PublicationParts). IsFile published basis q end h.octets) e h.file.file in
            among-in published basis.by.sha256 p.folder end (P p) p.manifest.content.files os are file.file file.listed
            file.ends h.octets file.stands (subst (λ (q : PublicationParts). P q h.octets) e h.says)

        pub said-out : IsSaidAmong end (P p) p.manifest.content.files os → IsSaid published basis end x P
        said-out h =
            let k = among-out published basis.by.sha256 p.folder end (P p) p.manifest.content.files os are h in
            record {
              point = p;
              octets = k.octets;
              file = record {
                published_there = the-point;
                file = record { file = k.file; listed = k.listed; ends = k.ends; stands = k.stands };
              };
              says = k.says;
            }

  -- an authority below, as what a file says
  abbrev IsChild : Holder → PublicationParts → List ℕ → Type 0
  IsChild y point octets = IsCertIn Ca basis x point.list octets y

  child-said : (y : Holder) → IsBelow published basis x y → IsSaid published basis (codes ".cer") x (IsChild y)
  child-said y h = record {
    point = h.point;
    octets = h.octets;
    file = record { published_there = h.published_there; file = h.file };
    says = h.cert;
  }

  said-child : (y : Holder) → IsSaid published basis (codes ".cer") x (IsChild y) → IsBelow published basis x y
  said-child y h = record {
    point = h.point;
    published_there = h.file.published_there;
    octets = h.octets;
    file = h.file.file;
    cert = h.says;
  }

-- ---- what is added

module _ {X : Type 0} (models : Models X) (published : Published)
    (issuer : Authority X) (at : DateTime) where
  abbrev pub B : Basis
  B = basis_of models issuer at

  abbrev pub H : Holder
  H = holder_of issuer

  abbrev Said : Found → Found → Type 0
  Said = AddsSaid (issuer.depth < issuer.terms.deepest) (SaysOrigin published B H) (SaysProviders published B H)
      (SaysRouter published B H) (IsBelow published B H)

  -- where there is no point, nothing is
  pub point-none : IsNone (IsPoint published B H) → (xs : Found) → Said xs xs
  point-none none xs = record {
    origins = adds-none (SaysOrigin published B H) xs.origins (λ v h. none h.point h.file.published_there);
    providers = adds-none (SaysProviders published B H) xs.providers (λ v h. none h.point h.file.published_there);
    routers = adds-none (SaysRouter published B H) xs.routers (λ v h. none h.point h.file.published_there);
    below = λ may. adds-none (IsBelow published B H) xs.below (λ y h. none h.point h.published_there);
  }

  pub none-published : IsNone (IsPublication published B.by.sha256 B.terms.strictness.attributes H.cert.tbs)
      → IsNone (IsPoint published B H)
  none-published none q h = none q h.there

  module _ (p : PublicationParts) (sole : IsSole (Publishes published B H) p) (holds : HoldsAtMoment B H p)
      (os : List (List ℕ)) (are : AreOctetsOf published B.by.sha256 p.folder p.manifest.content.files os)
      (old new : Found) where
    files-said : AddsFiles models (in_force issuer p.list Refused at) p.manifest.content.files os old new
        → Said old new
    files-said h = record {
      origins = adds-same _ (SaysOrigin published B H) old.origins new.origins
          (λ v. said-out published B H p sole holds os are (codes ".roa") (SayOrigin B H v))
          (λ v. said-in published B H p sole holds os are (codes ".roa") (SayOrigin B H v)) h.origins;
      providers = adds-same _ (SaysProviders published B H) old.providers new.providers
          (λ v. said-out published B H p sole holds os are (codes ".asa")
          (λ point octets. AreProvidersIn B H point.list octets v))
          (λ v. said-in published B H p sole holds os are (codes ".asa")
          (λ point octets. AreProvidersIn B H point.list octets v)) h.providers;
      routers = adds-same _ (SaysRouter published B H) old.routers new.routers
          (λ v. said-out published B H p sole holds os are (codes ".cer")
          (λ point octets. IsCertIn Router B H point.list octets v))
          (λ v. said-in published B H p sole holds os are (codes ".cer")
          (λ point octets. IsCertIn Router B H point.list octets v)) h.routers;
      below = λ may. adds-same _ (IsBelow published B H) old.below new.below
          (λ y k. said-child published B H y
          (said-out published B H p sole holds os are (codes ".cer") (IsChild published B H y) k))
          (λ y k. said-in published B H p sole holds os are (codes ".cer") (IsChild published B H y)
          (child-said published B H y k)) (h.below may);
    }

    -- what the files say
    pub point-files : (c : InForce X) → c ≡ in_force issuer p.list Refused at
        → AddsFiles models c p.manifest.content.files os old new → Said old new
    point-files c e h = files-said
        (subst (λ (q : InForce X). AddsFiles models q p.manifest.content.files os old new) e h)

  -- why there is none
  pub stop-publication : (K : Reason → Type 0) (s : Stop) (xs : Found)
      → StopsAt (IsPublication published B.by.sha256 B.terms.strictness.attributes H.cert.tbs) K s
      → UnlessMemory (Said xs xs) s
  stop-publication K s xs h =
      stops-none (IsPublication published B.by.sha256 B.terms.strictness.attributes H.cert.tbs) K (Said xs xs) s
      (λ none. point-none (none-published none) xs) h

  module _ (p : PublicationParts) (sole : IsSole (Publishes published B H) p) where
    pub stop-moment : (K : Reason → Type 0) (s : Stop) (xs : Found)
        → StopsAt (λ (u : Unit {0}). HoldsAtMoment B H p) K s → UnlessMemory (Said xs xs) s
    stop-moment K s xs h =
        stops-none (λ (u : Unit {0}). HoldsAtMoment B H p) K (Said xs xs) s
        (λ none. point-none (none-holds published B H p sole none) xs) h

    pub stop-files : (K : Reason → Type 0) (s : Stop) (xs : Found)
        → StopsAt (AreOctetsOf published B.by.sha256 p.folder p.manifest.content.files) K s
        → UnlessMemory (Said xs xs) s
    stop-files K s xs h =
        stops-none (AreOctetsOf published B.by.sha256 p.folder p.manifest.content.files) K (Said xs xs) s
        (λ none. point-none (none-whole published B H p sole none) xs) h

-- the authority of a list that counts
pub sisters-of : {X : Type 0} (c : InForce X) (issuer : Authority X) (list : CrlParts) (at : DateTime)
    → c ≡ in_force issuer list Refused at → (old new : List (Authority X)) → AreSistersBelow c.issuer c.at old new
    → AreSistersBelow issuer at old new
sisters-of {X} c issuer list at e old new h =
    subst (λ (q : InForce X). AreSistersBelow q.issuer q.at old new) e h
