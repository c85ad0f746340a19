-- The octets of files, in sequence.
use Rattle.std.proofs.Common.{◌≡◌, ℕ, List, [], ◌∷◌, ◌++◌, length, refl, sym, ap, subst, ◌∙◌, arith, inl, inr}
use Rattle.std.proofs.Common.{append_assoc, append-nil}
use Rattle.rpki_contents.specs.ListedFile.{ListedFile}
use Rattle.rpki_validation.specs.declared.reason.Reason.{Reason}
use Rattle.rpki_validation.specs.declared.stop.Stop.{Stop}
use Rattle.rpki_validation.specs.Finding.{IsNone, IsSole, StopsAt}
use Rattle.rpki_validation.specs.Point.{AreOctetsOf, IsIncomplete}
use Rattle.rpki_validation.specs.Publication.{IsNoFile, StandsAs}
use Rattle.rpki_validation.specs.Snapshot.{Published}
use Rattle.rpki_validation.proofs.FindingLaws.{stops-later}

-- the octets are those of the files in front of the rest, and no others are
pub record IsUpTo (published : Published) (sha256 : List ℕ → List ℕ) (folder : List ℕ) (files rest : List ListedFile)
    (all : List (List ℕ)) : Type 0 where
  pub more : (os : List (List ℕ)) → AreOctetsOf published sha256 folder rest os
      → AreOctetsOf published sha256 folder files (all ++ os)
  pub only : (os : List (List ℕ)) → AreOctetsOf published sha256 folder files os
      → (more : List (List ℕ)) × (os ≡ all ++ more) × AreOctetsOf published sha256 folder rest more
  pub why : (reason : Reason) → IsIncomplete published sha256 folder rest reason
      → IsIncomplete published sha256 folder files reason

module _ (published : Published) (sha256 : List ℕ → List ℕ) (folder : List ℕ) (files : List ListedFile) where
  abbrev Are : List ListedFile → List (List ℕ) → Type 0
  Are = AreOctetsOf published sha256 folder

  abbrev UpTo : List ListedFile → List (List ℕ) → Type 0
  UpTo = IsUpTo published sha256 folder files

  pub files-start : UpTo files []
  files-start = record { more = λ os h. h; only = λ os h. (os, refl, h); why = λ reason h. h }

  module _ (file : ListedFile) (rest : List ListedFile) (all : List (List ℕ)) (before : UpTo (file ∷ rest) all) where
    pub files-step : (o : List ℕ) → IsSole (StandsAs published sha256 folder file) o → UpTo rest (all ++ (o ∷ []))
    files-step o found = record {
      more = λ os h. subst (Are files) (sym (append_assoc all (o ∷ []) os)) (before.more (o ∷ os) (found.holds, h));
      only = λ os h. let k = before.only os h in split os k.0 k.1 k.2;
      why = λ reason h. before.why reason (inr ((o, found.holds), h));
    } where
      split : (os more : List (List ℕ)) → os ≡ all ++ more → Are (file ∷ rest) more
          → (later : List (List ℕ)) × (os ≡ (all ++ (o ∷ [])) ++ later) × Are rest later
      split os [] e h = absurd h
      split os (p ∷ ps) e h = (
        ps,
        e ∙ ap (λ (q : List ℕ). all ++ (q ∷ ps)) (found.sole p h.0) ∙ sym (append_assoc all (o ∷ []) ps),
        h.1,
      )

    pub files-stop : (s : Stop)
        → StopsAt (StandsAs published sha256 folder file) (IsNoFile published sha256 folder file) s
        → StopsAt (Are files) (IsIncomplete published sha256 folder files) s
    files-stop s h =
        stops-later (Are files) (IsIncomplete published sha256 folder files) (StandsAs published sha256 folder file)
        (IsNoFile published sha256 folder file) s h none-later
        (λ reason k. before.why reason (inl k)) where
          first : (more : List (List ℕ)) → IsNone (StandsAs published sha256 folder file) → Are (file ∷ rest) more → ⊥
          first [] none h = h
          first (p ∷ ps) none h = none p h.0

          none-later : IsNone (StandsAs published sha256 folder file) → IsNone (Are files)
          none-later none os h = let k = before.only os h in first k.0 none k.2

  pub files-end : (rest : List ListedFile) (all : List (List ℕ)) → length rest ≡ 0 → UpTo rest all
      → IsSole (Are files) all
  files-end (file ∷ rest) all none before = absurd (omega (arith, none))
  files-end [] all none before = record {
    holds = subst (Are files) (append-nil all) (before.more [] tt);
    sole = λ os h. let k = before.only os h in last os k.0 k.1 k.2;
  } where
    last : (os more : List (List ℕ)) → os ≡ all ++ more → Are [] more → os ≡ all
    last os [] e h = e ∙ append-nil all
    last os (p ∷ ps) e h = absurd h
