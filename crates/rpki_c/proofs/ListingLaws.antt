-- The revocation list among the files of a manifest, sought from the first file to the last.
use Rattle.std.proofs.Common.{◌≡◌, ◌≢◌, ◌∙◌, ◌++◌, ◌<◌, List, ℕ, Bool, true, false, [], ◌∷◌, Option, Some, None}
use Rattle.std.proofs.Common.{length, refl, sym, ap, arith}
use Rattle.std.specs.Prelude.{codes, filter, is_some, nat_eq}
use Rattle.std.specs.List.{ends_with}
use Rattle.rpki_der.specs.Prelude.{optional_of}
use Rattle.rpki_contents.specs.declared.file_view.FileView.{FileView}
use Rattle.rpki_contents.specs.FilesInPlace.{FileOctets, AreFiles, HoldFiles}
use Rattle.rpki_contents.specs.ListedFile.{ListedFile}
use Rattle.rpki_contents.specs.ManifestView.{file_in, GivesFile}
use Rattle.rpki_c.specs.AuthorityManifest.{ListsOnly, is_list, list_file, only}

-- the list, where one was found
abbrev pub found_in : Option FileView → List ListedFile
found_in None = []
found_in (Some x) = file_in x ∷ []

-- the lists are the one that was found, and those of the files that remain
abbrev pub IsSought : FileOctets → Option FileView → List ℕ → Type 0
IsSought files found left =
    (xs : List ListedFile) → HoldFiles files xs → (ys : List ListedFile) × AreFiles ys left
    × (filter is_list xs ≡ found_in found ++ filter is_list ys)

-- ---- one file more

of-list : (y : ListedFile) (ys : List ListedFile) → is_list y ≡ true
    → filter is_list (y ∷ ys) ≡ y ∷ filter is_list ys
of-list y ys is = rw is refl

of-other : (y : ListedFile) (ys : List ListedFile) → is_list y ≡ false
    → filter is_list (y ∷ ys) ≡ filter is_list ys
of-other y ys is = rw is refl

module _ (files : FileOctets) (left after : List ℕ) (x : FileView)
    (given : (ys : List ListedFile) → AreFiles ys left → GivesFile ys (Some x) after) where
  -- the first of the files that remain is the one that was given
  taken : (ys : List ListedFile) → AreFiles ys left
      → (zs : List ListedFile) × AreFiles zs after × (filter is_list ys ≡ filter is_list (file_in x ∷ zs))
  taken [] h =
      let none = (given [] h).0 in absurd (cc)
  taken (y ∷ ys) h =
      let gives = given (y ∷ ys) h in
      let same : Some (file_in x) ≡ Some y = gives.0 in
      let is : file_in x ≡ y = cc in
      (ys, gives.1, ap (λ (z : ListedFile). filter is_list (z ∷ ys)) (sym is))

  pub past-another : (found : Option FileView) → is_list (file_in x) ≡ false → IsSought files found left
      → IsSought files found after
  past-another found other h xs held =
      let (ys, are, same) = h xs held in
      let (zs, left, is) = taken ys are in
      (zs, left, same ∙ ap (λ (l : List ListedFile). found_in found ++ l) (is ∙ of-other (file_in x) zs other))

  pub past-list : (found : Option FileView) → is_some found ≡ false → is_list (file_in x) ≡ true
      → IsSought files found left → IsSought files (Some x) after
  past-list (Some y) none list h xs held = absurd (cc)
  past-list None none list h xs held =
      let (ys, are, same) = h xs held in
      let (zs, left, is) = taken ys are in
      (zs, left, same ∙ is ∙ of-list (file_in x) zs list)

  -- a second list
  pub second : (found : Option FileView) → is_some found ≡ true → is_list (file_in x) ≡ true
      → IsSought files found left → (xs : List ListedFile) → HoldFiles files xs
      → optional_of file_in None ≡ list_file xs
  second None some list h xs held = absurd (cc)
  second (Some y) some list h xs held =
      let (ys, are, same) = h xs held in
      let (zs, left, is) = taken ys are in
      let two : filter is_list xs ≡ file_in y ∷ (file_in x ∷ filter is_list zs) =
      same ∙ ap (λ (l : List ListedFile). file_in y ∷ l) (is ∙ of-list (file_in x) zs list) in
      sym (ap only two)

-- ---- no file more

module _ (files : FileOctets) (left after : List ℕ)
    (given : (ys : List ListedFile) → AreFiles ys left → GivesFile ys None after) where
  ended : (found : Option FileView) (ys : List ListedFile) → AreFiles ys left → (xs : List ListedFile)
      → filter is_list xs ≡ found_in found ++ filter is_list ys → optional_of file_in found ≡ list_file xs
  ended found (y ∷ ys) are xs same =
      let some = (given (y ∷ ys) are).0 in absurd (cc)
  ended None [] are xs same = sym (ap only same)
  ended (Some y) [] are xs same = sym (ap only same)

  pub sought : (found : Option FileView) → IsSought files found left → (xs : List ListedFile) → HoldFiles files xs
      → optional_of file_in found ≡ list_file xs
  sought found h xs held =
      let (ys, are, same) = h xs held in
      ended found ys are xs same

-- ---- the one list, or none

some-only : (xs : List ListedFile) (y : ListedFile) → only xs ≡ Some y → xs ≡ y ∷ []
some-only [] y e = absurd (cc)
some-only (x ∷ []) y e = let same : x ≡ y = cc in ap (λ (z : ListedFile). z ∷ []) same
some-only (x ∷ z ∷ zs) y e = absurd (cc)

pub unlisted : (xs : List ListedFile) (digest : List ℕ) → optional_of file_in None ≡ list_file xs
    → ListsOnly xs digest → ⊥
unlisted xs digest none h = let e : None ≡ Some h.file = none ∙ h.listed in absurd (cc)

pub other-listed : (xs : List ListedFile) (digest : List ℕ) (x : FileView) → Some (file_in x) ≡ list_file xs
    → x.hash ≢ digest → ListsOnly xs digest → ⊥
other-listed xs digest x is other h =
    let e : Some (file_in x) ≡ Some h.file = is ∙ h.listed in
    let same : file_in x ≡ h.file = cc in
    other (ap (λ (y : ListedFile). y.1) same ∙ h.same)

-- its name isn't empty
list-in : (xs : List ListedFile) (y : ListedFile) (ys : List ListedFile) → filter is_list xs ≡ y ∷ ys
    → is_list y ≡ true
list-in [] y ys e = absurd (cc)
list-in (x ∷ xs) y ys e = by (λ k. list-in xs y ys k) (is_list x) refl where
  by : (filter is_list xs ≡ y ∷ ys → is_list y ≡ true) → (b : Bool) → is_list x ≡ b → is_list y ≡ true
  by others true is =
      let k : x ∷ filter is_list xs ≡ y ∷ ys = sym (of-list x xs is) ∙ e in
      let same : x ≡ y = cc in
      ap is_list (sym same) ∙ is
  by others false is = others (sym (of-other x xs is) ∙ e)

ending-there : (name : List ℕ) → ends_with nat_eq name (codes ".crl") ≡ true → 0 < length name
ending-there [] e = absurd (cc)
ending-there (b ∷ name) e = omega arith

pub named-list : (xs : List ListedFile) (y : ListedFile) → list_file xs ≡ Some y → 0 < length y.0
named-list xs y e = ending-there y.0 (list-in xs y [] (some-only (filter is_list xs) y e))
