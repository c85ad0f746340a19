-- The names of the files of a manifest, put in sequence into room for them.
use Rattle.std.proofs.Common.{◌≡◌, ◌∙◌, ◌+◌, ◌<◌, ◌++◌, ℕ, List, [], ◌∷◌, Some, None, length, take}
use Rattle.std.proofs.Common.{refl, sym, ap, subst, arith, length-append, append_assoc, append-nil}
use Rattle.std.specs.Prelude.{map}
use Rattle.std.proofs.Math.ListN.{set}
use Rattle.std.proofs.lemmas.List.{take_more_set, map-append}
use denote.Bor.{Bor}
use Rattle.rpki_contents.specs.declared.file_view.FileView.{FileView}
use Rattle.rpki_contents.specs.ListedFile.{ListedFile}
use Rattle.rpki_contents.specs.FilesInPlace.{FileOctets, AreFiles, HoldFiles}
use Rattle.rpki_contents.specs.ManifestView.{file_in, GivesFile}
use Rattle.rpki_contents.proofs.NamesLaws.{AreNamesOf, octets_of, name_of}

abbrev Name : Type 0
Name = Bor (List ℕ)

-- the names of some of the files are the first n in the room, and the others are these octets
pub record Placed (room : List Name) (n : ℕ) (rest : List ℕ) (all : List ListedFile) : Type 0 where
  pub done : List ListedFile
  pub left : List ListedFile
  pub names : AreNamesOf (take n room) done
  pub count : length done ≡ n
  pub files : AreFiles left rest
  pub parts : all ≡ done ++ left

-- whichever files the octets of v are
abbrev pub ArePlaced : FileOctets → List Name → ℕ → List ℕ → Type 0
ArePlaced v room n rest = (all : List ListedFile) → HoldFiles v all → Placed room n rest all

pub none-placed : (v : FileOctets) (room : List Name) (rest : List ℕ) → rest ≡ v.octets → ArePlaced v room 0 rest
none-placed v room rest is all held = record {
  done = [];
  left = all;
  names = refl;
  count = refl;
  files = subst (AreFiles all) (sym is) held.files;
  parts = refl;
}

-- ---- one more

module _ (room : List Name) (n : ℕ) (rest after : List ℕ) (all : List ListedFile) (x : FileView)
    (given : (xs : List ListedFile) → AreFiles xs rest → GivesFile xs (Some x) after) where
  one-more : (done left : List ListedFile) → AreNamesOf (take n room) done → length done ≡ n → AreFiles left rest
      → all ≡ done ++ left → (moved : List Name) → moved ≡ set room n x.name → n < length room
      → Placed moved (n + 1) after all
  one-more done [] names count files parts moved is within =
      let none = (given [] files).0 in absurd (cc)
  one-more done (y ∷ ys) names count files parts moved is within =
      let gives = given (y ∷ ys) files in
      let same : Some (file_in x) ≡ Some y = gives.0 in
      let named : x.name.now ≡ y.0 = some-name (file_in x) y same in
      record {
        done = done ++ (y ∷ []);
        left = ys;
        names = ap (λ (m : List Name). map octets_of (take (n + 1) m)) is
            ∙ ap (map octets_of) (take_more_set room n x.name within)
            ∙ map-append octets_of (take n room) (x.name ∷ [])
            ∙ ap (λ (m : List (List ℕ)). m ++ (x.name.now ∷ [])) names
            ∙ ap (λ (m : List ℕ). map name_of done ++ (m ∷ [])) named
            ∙ sym (map-append name_of done (y ∷ []));
        count = omega (arith, length-append done (y ∷ []), count);
        files = gives.1;
        parts = parts ∙ sym (append_assoc done (y ∷ []) ys);
      }
    where
      some-name : (a b : ListedFile) → Some a ≡ Some b → a.0 ≡ b.0
      some-name a b e = let z : a ≡ b = cc in ap (λ (w : ListedFile). w.0) z

  pub one-placed : Placed room n rest all → (moved : List Name) → moved ≡ set room n x.name → n < length room
      → Placed moved (n + 1) after all
  one-placed h = one-more h.done h.left h.names h.count h.files h.parts

  -- there is room for it
  fits : (done left : List ListedFile) → length done ≡ n → AreFiles left rest → all ≡ done ++ left → n < length all
  fits done [] count files parts = let none = (given [] files).0 in absurd (cc)
  fits done (y ∷ ys) count files parts = omega (arith, ap length parts, length-append done (y ∷ ys), count)

  pub placed-fits : Placed room n rest all → n < length all
  placed-fits h = fits h.done h.left h.count h.files h.parts

-- ---- no more

module _ (room : List Name) (n : ℕ) (rest after : List ℕ) (all : List ListedFile)
    (given : (xs : List ListedFile) → AreFiles xs rest → GivesFile xs None after) where
  last : (done left : List ListedFile) → AreNamesOf (take n room) done → AreFiles left rest → all ≡ done ++ left
      → AreNamesOf (take n room) all
  last done [] names files parts = names ∙ ap (map name_of) (sym (parts ∙ append-nil done))
  last done (y ∷ ys) names files parts = let none = (given (y ∷ ys) files).0 in absurd (cc)

  pub all-placed : Placed room n rest all → AreNamesOf (take n room) all
  all-placed h = last h.done h.left h.names h.files h.parts
