-- What is rejected of files, and of the point of an authority.
use Rattle.std.proofs.Common.{◌≡◌, ◌⊎◌, ◌++◌, inl, inr, ℕ, List, [], ◌∷◌}
use Rattle.std.proofs.Common.{Result, Ok, Err, ap, refl, subst, sym, ◌∙◌}
use Rattle.std.specs.Prelude.{IfOk}
use Rattle.std.specs.List.{Contains}
use Rattle.jiff.specs.Types.{DateTime}
use Rattle.rpki.specs.Checkers.{Models}
use Rattle.rpki_contents.specs.ListedFile.{ListedFile}
use Rattle.rpki_valid.specs.declared.staleness.Staleness.TheVariants.{Refused}
use Rattle.rpki_valid.specs.CrlIssued.{InForce, in_force}
use Rattle.rpki_valid.specs.Verified.{Authority, Holder}
use Rattle.rpki_validation.specs.declared.outcome.Rejection.{Rejection}
use Rattle.rpki_validation.specs.declared.reason.Reason.{Reason}
use Rattle.rpki_validation.specs.declared.stop.Stop.{Stop}
use Rattle.rpki_validation.specs.Basis.{Basis, basis_of, holder_of}
use Rattle.rpki_validation.specs.Finding.{IsNone, IsSole, StopsAt}
use Rattle.rpki_validation.specs.Noting.{AddsOnly, AnyPair, EachPair, Noted}
use Rattle.rpki_validation.specs.Point.{AreOctetsOf, HoldsAtMoment, IsIncomplete, IsNoMoment, IsPoint}
use Rattle.rpki_validation.specs.Publication.{IsNoPublication, IsPublication, PublicationParts, StandsAs}
use Rattle.rpki_validation.specs.Rejected.{AreNoted, IsFileRejection, IsNoPoint, IsPointRejection, IsRejectedFile}
use Rattle.rpki_validation.specs.Rejected.{IsRejectionOf, IsRightFile}
use Rattle.rpki_validation.specs.Rejected.IsNoPoint.{NotThere, NotAtMoment, NotWhole}
use Rattle.rpki_validation.specs.Rejecting.{AddsNote, IsChild, IsChildOf, IsFileNote, IsNotedHere, IsPointNote}
use Rattle.rpki_validation.specs.Rejecting.{IsRightHere}
use Rattle.rpki_validation.specs.Rejecting.{IsWrongHere, Only, Rejects, RejectsFiles}
use Rattle.rpki_validation.specs.Snapshot.{Published}
use Rattle.rpki_validation.specs.Taking.{Among}
use Rattle.rpki_validation.proofs.FindingLaws.{stops-later}
use Rattle.rpki_validation.proofs.MetLaws.{cons-cases, head-in, none-in, tail-in}
use Rattle.rpki_validation.proofs.NotingLaws.{AddsUpTo, NotesUpTo, adds-map, adds-one, adds-step, notes-noted}
use Rattle.rpki_validation.proofs.NotingLaws.{notes-right, noted-map, noted-push, within-push}
use Rattle.rpki_validation.proofs.VisitLaws.{B, none-holds, none-published, none-whole, one-stands, the-point}

-- ---- steps

pub ok-map : {R E : Type 0} (A B : Type 0) (r : Result R E) → (A → B) → IfOk r (λ _. A) → IfOk r (λ _. B)
ok-map A B (Ok x) f h = f h
ok-map A B (Err e) f h = h

pub ok-always : {R E : Type 0} (A : Type 0) (r : Result R E) → A → IfOk r (λ _. A)
ok-always A (Ok x) a = a
ok-always A (Err e) a = tt

-- ---- files, in sequence

module _ {X : Type 0} (models : Models X) (c : InForce X)
    (folder : List ℕ) (files : List ListedFile) (octets : List (List ℕ)) where
  abbrev Children : List ListedFile → List (List ℕ) → List (Authority X) → List (Authority X) → Type 0
  Children rest more = AddsUpTo (IsChildOf models c) files rest octets more

  abbrev Notes' : List ListedFile → List (List ℕ) → List Rejection → List Rejection → Type 0
  Notes' rest more = NotesUpTo (IsRightHere models c) (IsNotedHere models c folder) files
      rest octets more

  module _ (file : ListedFile) (rest following : List ListedFile) (one : List ℕ) (more later : List (List ℕ))
      (r : rest ≡ file ∷ following) (m : more ≡ one ∷ later) where
    pub children-step : (old now then : List (Authority X)) → Children rest more old now
        → AddsOnly (IsChildOf models c file one) now then → Children following later old then
    children-step old now then before h =
        adds-step (IsChildOf models c) files octets old file following one later now
        (subst (λ (q : List ListedFile). Children q (one ∷ later) old now) r
        (subst (λ (q : List (List ℕ)). Children rest q old now) m before)) then h

    here : (old now : List Rejection) → Notes' rest more old now → Notes' (file ∷ following) (one ∷ later) old now
    here old now before =
        subst (λ (q : List ListedFile). Notes' q (one ∷ later) old now) r
        (subst (λ (q : List (List ℕ)). Notes' rest q old now) m before)

    -- the file counts
    pub right-step : (old now then : List Rejection) → then ≡ now → Notes' rest more old now
        → IsRightHere models c file one → Notes' following later old then
    right-step old now then same before right =
        subst (λ (q : List Rejection). Notes' following later old q) (sym same)
        (notes-right (IsRightHere models c) (IsNotedHere models c folder) files octets old
        file following one later now (here old now before) right)

    -- it doesn't, and that is noted
    pub wrong-step : (old now then noted : List Rejection) → then ≡ now → Notes' rest more old now → (reason : Reason)
        → IsWrongHere models c file one reason → AddsNote (IsFileNote folder file reason) then noted
        → Notes' following later old noted
    wrong-step old now then noted same before reason wrong note =
        let e = note.1 ∙ ap (λ (l : List Rejection). l ++ note.0 ∷ []) same in
        subst (λ (q : List Rejection). Notes' following later old q) (sym e)
        (notes-noted (IsRightHere models c) (IsNotedHere models c folder) files octets old
        file following one later now (here old now before) note.0 (record {
          note = record { alone = note.2.alone; place = note.2.place; why = refl };
          wrong = subst (λ (q : Reason). IsWrongHere models c file one q) (sym note.2.why) wrong;
        }))

-- ---- pairs of files and octets that are there

module _ (published : Published) (sha256 : List ℕ → List ℕ) (folder : List ℕ) where
  abbrev Are : List ListedFile → List (List ℕ) → Type 0
  Are = AreOctetsOf published sha256 folder

  abbrev Stands : ListedFile → List ℕ → Type 0
  Stands = StandsAs published sha256 folder

  -- a file of these, of which P is true with its octets
  pub record IsPairAt (P : ListedFile → List ℕ → Type 0) (files : List ListedFile) : Type 0 where
    pub file : ListedFile
    pub listed : Contains files file
    pub octets : List ℕ
    pub stands : Stands file octets
    pub is : P file octets

  module _ (P : ListedFile → List ℕ → Type 0) where
    pair-later : (f : ListedFile) (fs : List ListedFile) → IsPairAt P fs → IsPairAt P (f ∷ fs)
    pair-later f fs h = record {
      file = h.file;
      listed = tail-in f fs h.file h.listed;
      octets = h.octets;
      stands = h.stands;
      is = h.is;
    }

    pub pair-out : (files : List ListedFile) (os : List (List ℕ)) → Are files os → AnyPair P files os
        → IsPairAt P files
    pair-out [] os h k = absurd k
    pair-out (f ∷ fs) [] h k = absurd k
    pair-out (f ∷ fs) (o ∷ os) h (inl k) =
        record { file = f; listed = head-in f fs; octets = o; stands = h.0; is = k }
    pair-out (f ∷ fs) (o ∷ os) h (inr k) = pair-later f fs (pair-out fs os h.1 k)

    pub each-of : (files : List ListedFile) (os : List (List ℕ)) → Are files os → EachPair P files os
        → (file : ListedFile) → Contains files file → (q : List ℕ) → Stands file q → P file q
    each-of [] os h k file m q stands = absurd (none-in file m)
    each-of (f ∷ fs) [] h k file m q stands = absurd h
    each-of (f ∷ fs) (o ∷ os) h k file m q stands =
        by (λ l. each-of fs os h.1 k.1 file l q stands) (cons-cases f fs file m) where
          by : (Contains fs file → P file q) → (f ≡ file) ⊎ Contains fs file → P file q
          by later (inl e) =
              let there = subst (λ (g : ListedFile). Stands g o) e h.0 in
              let same = one-stands published sha256 folder file q o stands there in
              subst (λ (p : List ℕ). P file p) (sym same) (subst (λ (g : ListedFile). P g o) e k.0)
          by later (inr l) = later l

-- ---- the point of an authority

module _ {X : Type 0} (models : Models X) (published : Published)
    (issuer : Authority X) (at : DateTime) where
  abbrev pub Basis' : Basis
  Basis' = basis_of models issuer at

  abbrev pub Holder' : Holder
  Holder' = holder_of issuer

  abbrev pub Publishes : PublicationParts → Type 0
  Publishes = IsPublication published Basis'.by.sha256 Basis'.terms.strictness.attributes Holder'.cert.tbs

  abbrev Point : PublicationParts → Type 0
  Point = IsPoint published Basis' Holder'

  abbrev NoPoint : Reason → Type 0
  NoPoint = IsNoPoint published Basis' Holder'

  abbrev Rejects' : List Rejection → List Rejection → Type 0
  Rejects' = Rejects published Basis' issuer.depth (Only Holder')

  -- ---- why there is none

  pub not-there : (s : Stop)
      → StopsAt Publishes
      (IsNoPublication published Basis'.by.sha256 Basis'.terms.strictness.attributes Holder'.cert.tbs) s
      → StopsAt Point NoPoint s
  not-there s h =
      stops-later Point NoPoint Publishes _ s h (none-published models published issuer at)
      (λ reason k. NotThere k)

  module _ (p : PublicationParts) (sole : IsSole Publishes p) where
    pub not-at-moment : (s : Stop) → StopsAt (λ (u : Unit {0}). HoldsAtMoment Basis' Holder' p)
        (IsNoMoment Basis' Holder' p) s → StopsAt Point NoPoint s
    not-at-moment s h =
        stops-later Point NoPoint (λ (u : Unit {0}). HoldsAtMoment Basis' Holder' p) _ s h
        (none-holds published Basis' Holder' p sole) (λ reason k. NotAtMoment p sole.holds k)

    pub not-whole : HoldsAtMoment Basis' Holder' p → (s : Stop)
        → StopsAt (AreOctetsOf published Basis'.by.sha256 p.folder p.manifest.content.files)
        (IsIncomplete published Basis'.by.sha256 p.folder p.manifest.content.files) s → StopsAt Point NoPoint s
    not-whole holds s h =
        stops-later Point NoPoint (AreOctetsOf published Basis'.by.sha256 p.folder p.manifest.content.files) _ s h
        (none-whole published Basis' Holder' p sole) (λ reason k. NotWhole p sole.holds holds k)

    -- ---- what its files are rejected for

    module _ (holds : HoldsAtMoment Basis' Holder' p) (os : List (List ℕ))
        (are : AreOctetsOf published Basis'.by.sha256 p.folder p.manifest.content.files os) where
      pub There : Point p
      There = the-point published Basis' Holder' p sole holds os are

      abbrev pub C : InForce X
      C = in_force issuer p.list Refused at

      abbrev Pair : (ListedFile → List ℕ → Type 0) → Type 0
      Pair P = IsPairAt published Basis'.by.sha256 p.folder P p.manifest.content.files

      -- the note of a file that is there
      file-noted : (file : ListedFile) (q : List ℕ) → StandsAs published Basis'.by.sha256 p.folder file q
          → (r : Rejection) → IsNotedHere models C p.folder file q r
          → IsRejectedFile issuer.depth Basis' Holder' p file q r
      file-noted file q stands r h =
          record { alone = h.note.alone; place = h.note.place stands.short; why = h.wrong }

      file-rejection : (r : Rejection)
          → Pair (λ file q. IsNotedHere models C p.folder file q r)
          → IsFileRejection published Basis' issuer.depth Holder' r
      file-rejection r h = record {
        point = p;
        published_there = There;
        file = h.file;
        listed = h.listed;
        octets = h.octets;
        stands = h.stands;
        rejected = file-noted h.file h.octets h.stands r h.is;
      }

      all-noted : (all : List Rejection)
          → EachPair (λ file q. IsRightHere models C file q
          ⊎ Noted (IsNotedHere models C p.folder file q) all) p.manifest.content.files os
          → AreNoted published Basis' issuer.depth Holder' all
      all-noted all each = record {
        point = λ none. absurd (none p There);
        files = λ q there file listed o stands. same q (sole.sole q there.there) file listed o stands;
      } where
        settled : (file : ListedFile) → Contains p.manifest.content.files file → (o : List ℕ)
            → StandsAs published Basis'.by.sha256 p.folder file o
            → IsRightFile issuer.depth Basis' Holder' p.list file o
            ⊎ Noted (IsRejectedFile issuer.depth Basis' Holder' p file o) all
        settled file listed o stands =
            by (each-of published Basis'.by.sha256 p.folder _ p.manifest.content.files os are each file listed o stands)
          where
            by : IsRightHere models C file o
                ⊎ Noted (IsNotedHere models C p.folder file o) all
                → IsRightFile issuer.depth Basis' Holder' p.list file o
                ⊎ Noted (IsRejectedFile issuer.depth Basis' Holder' p file o) all
            by (inl h) = inl h
            by (inr h) = inr (noted-map _ _ all (file-noted file o stands) h)

        same : (q : PublicationParts) → q ≡ p → (file : ListedFile) → Contains q.manifest.content.files file
            → (o : List ℕ) → StandsAs published Basis'.by.sha256 q.folder file o
            → IsRightFile issuer.depth Basis' Holder' q.list file o
            ⊎ Noted (IsRejectedFile issuer.depth Basis' Holder' q file o) all
        same q e =
            subst (λ (p : PublicationParts). (file : ListedFile) → Contains p.manifest.content.files file
            → (o : List ℕ) → StandsAs published Basis'.by.sha256 p.folder file o
            → IsRightFile issuer.depth Basis' Holder' p.list file o
            ⊎ Noted (IsRejectedFile issuer.depth Basis' Holder' p file o) all) (sym e) settled

      files-rejected' : (old new : List Rejection)
          → RejectsFiles models C p.folder p.manifest.content.files os old new → Rejects' old new
      files-rejected' old new h = record {
        each = adds-map _ _ old new
            (λ r k. (
              Holder',
              refl,
              inr (file-rejection r
                  (pair-out published Basis'.by.sha256 p.folder _ p.manifest.content.files os are k)),
            )) h.each;
        all = λ x e. subst (λ (y : Holder). AreNoted published Basis' issuer.depth y new) e (all-noted new h.all);
        kept = h.kept;
      }

      pub files-rejected : (c : InForce X) → c ≡ in_force issuer p.list Refused at → (old new : List Rejection)
          → RejectsFiles models c p.folder p.manifest.content.files os old new → Rejects' old new
      files-rejected c e old new h =
          files-rejected' old new (subst (λ (q : InForce X). RejectsFiles models q p.folder
          p.manifest.content.files os old new) e h)

      -- ---- what is below it

      child-below : (a : Authority X) → Pair (λ file q. IsChildOf models C file q a)
          → IsChild published Basis' issuer a
      child-below a h = (
        record {
          point = p;
          published_there = There;
          octets = h.octets;
          file = record { file = h.file; listed = h.listed; ends = h.is.0; stands = h.stands };
          cert = h.is.1.0;
        },
        h.is.1.1,
      )

      pub children-below : (c : InForce X) → c ≡ in_force issuer p.list Refused at → (old new : List (Authority X))
          → AddsOnly (λ a. AnyPair (λ file q. IsChildOf models c file q a) p.manifest.content.files os)
          old new → AddsOnly (IsChild published Basis' issuer) old new
      children-below c e old new h =
          adds-map _ _ old new
          (λ a k. child-below a (pair-out published Basis'.by.sha256 p.folder _ p.manifest.content.files os are k))
          (subst (λ (q : InForce X). AddsOnly (λ a. AnyPair (λ file o. IsChildOf models q file o a)
          p.manifest.content.files os) old new) e h)

  -- ---- all that it publishes is rejected

  module _ (reason : Reason) (none : IsNone Point) (why : NoPoint reason) (now old new : List Rejection)
      (same : now ≡ old) (note : AddsNote (IsPointNote Holder'.cert.tbs reason) now new) where
    abbrev R : Rejection
    R = note.0

    rejection : IsPointRejection published Basis' Holder' R
    rejection = record {
      whole = note.2.whole;
      place = note.2.place;
      none = none;
      why = subst NoPoint (sym note.2.why) why;
    }

    added : new ≡ old ++ R ∷ []
    added = note.1 ∙ ap (λ (l : List Rejection). l ++ R ∷ []) same

    noted : AreNoted published Basis' issuer.depth Holder' (old ++ R ∷ [])
    noted = record {
      point = λ h. noted-push (IsPointRejection published Basis' Holder') old R rejection;
      files = λ p there file listed o stands. absurd (none p there);
    }

    pub point-rejected : Rejects' old new
    point-rejected = subst (λ (l : List Rejection). Rejects' old l) (sym added) (record {
      each = adds-one (Among (Only Holder') (IsRejectionOf published Basis' issuer.depth)) old R
          (Holder', refl, inl rejection);
      all = λ x e. subst (λ (y : Holder). AreNoted published Basis' issuer.depth y (old ++ R ∷ [])) e noted;
      kept = within-push old R;
    })
