-- Locators in files, in sequence.
use Rattle.std.proofs.Common.{◌≡◌, ◌∙◌, ◌+◌, ◌<◌, ℕ, suc, Bool, true, false, List, [], ◌∷◌, ◌++◌, length, map, drop, ap}
use Rattle.std.proofs.Common.{append_assoc, append-nil, arith, drop-cons, get_or, refl, subst, sym}
use Rattle.std.proofs.lemmas.List.{map-append}
use Rattle.std.specs.Prelude.{Result, Ok, Err, IfOk}
use Rattle.rpkivalid.specs.declared.locators.Named.{Named}
use Rattle.rpkivalid.specs.LocatorsView.{named_of, AddsFirst}
use Rattle.rpkivalid.specs.Locators.{is_among, once, AreLocatorsIn, Holds, IsLocatorIn, NamedParts}

once-same : (path : List ℕ) (paths : List (List ℕ)) → is_among paths path ≡ true → once (path ∷ paths) ≡ once paths
once-same path paths h = rw h refl

once-next : (path : List ℕ) (paths : List (List ℕ)) → is_among paths path ≡ false
    → once (path ∷ paths) ≡ path ∷ once paths
once-next path paths h = rw h refl

-- with locators in the files that remain these are those in all
abbrev pub IsLocatedUpTo : Holds → (all rest : List (List ℕ)) → List NamedParts → Type 0
IsLocatedUpTo holds all rest ls =
    (more : List NamedParts) → AreLocatorsIn holds (once rest) more → AreLocatorsIn holds (once all) (ls ++ more)

module _ (holds : Holds) (all : List (List ℕ)) where
  located-same : (path : List ℕ) (rest : List (List ℕ)) (ls : List NamedParts) → is_among rest path ≡ true
      → IsLocatedUpTo holds all (path ∷ rest) ls → IsLocatedUpTo holds all rest ls
  located-same path rest ls same h = λ more k.
      h more (subst (λ (w : List (List ℕ)). AreLocatorsIn holds w more) (sym (once-same path rest same)) k)

  located-next : (path : List ℕ) (rest : List (List ℕ)) (ls : List NamedParts) (l : NamedParts)
      → is_among rest path ≡ false → IsLocatorIn holds path l → IsLocatedUpTo holds all (path ∷ rest) ls
      → IsLocatedUpTo holds all rest (ls ++ (l ∷ []))
  located-next path rest ls l next is h = λ more k.
      subst (λ (w : List NamedParts). AreLocatorsIn holds (once all) w) (sym (append_assoc ls (l ∷ []) more))
      (h (l ∷ more) (subst (λ (w : List (List ℕ)). AreLocatorsIn holds w (l ∷ more))
      (sym (once-next path rest next)) (is, k)))

  pub located-step : (among : Bool) (path : List ℕ) (rest : List (List ℕ)) (ls new : List NamedParts)
      → is_among rest path ≡ among → (is_among rest path ≡ true → new ≡ ls)
      → (is_among rest path ≡ false → (l : NamedParts) × IsLocatorIn holds path l × (new ≡ ls ++ (l ∷ [])))
      → IsLocatedUpTo holds all (path ∷ rest) ls → IsLocatedUpTo holds all rest new
  located-step true path rest ls new is same next h =
      subst (λ (w : List NamedParts). IsLocatedUpTo holds all rest w) (sym (same is)) (located-same path rest ls is h)
  located-step false path rest ls new is same next h =
      let (l, there, items) = next is in
      subst (λ (w : List NamedParts). IsLocatedUpTo holds all rest w) (sym items)
      (located-next path rest ls l is there h)

  pub located-first : {A : Type 0} (text : A → List ℕ) (files : List A) (i : ℕ) (slot : A) (old new : List Named)
      → i < length files → AddsFirst holds (map text (drop i files)) old new
      → IsLocatedUpTo holds all (map text (drop i files)) (map named_of old)
      → IsLocatedUpTo holds all (map text (drop (i + 1) files)) (map named_of new)
  located-first text files i slot old new lt adds h =
      let path = text (get_or files i slot) in
      let rest = map text (drop (i + 1) files) in
      let on : suc i ≡ i + 1 = omega arith in
      let here : map text (drop i files) ≡ path ∷ rest =
      ap (map text) (drop-cons files i slot lt) ∙ ap (λ n. path ∷ map text (drop n files)) on in
      let (same, next) = subst (λ (w : List (List ℕ)). AddsFirst holds w old new) here adds in
      located-step (is_among rest path) path rest (map named_of old) (map named_of new) refl
      (λ e. ap (map named_of) (same e))
      (λ e. let (n, there, items) = next e in (
        named_of n,
        there,
        ap (map named_of) items
            ∙ map-append named_of old (n ∷ []),
      )) (subst (λ (w : List (List ℕ)). IsLocatedUpTo holds all w (map named_of old))
      here h)

  pub located-end : (rest : List (List ℕ)) (ls : List NamedParts) → length rest ≡ 0 → IsLocatedUpTo holds all rest ls
      → AreLocatorsIn holds (once all) ls
  located-end (path ∷ rest) ls none h = absurd (omega (arith, none))
  located-end [] ls none h =
      subst (λ (w : List NamedParts). AreLocatorsIn holds (once all) w) (append-nil ls) (h [] tt)

-- the first of the files that there are
pub adds-none : (holds : Holds) (paths : List (List ℕ)) (all : List Named) → length paths ≡ 0
    → AddsFirst holds paths all all
adds-none holds [] all none = refl
adds-none holds (path ∷ paths) all none = absurd (omega (arith, none))

pub both-ok : {X E : Type 0} (A B : Type 0) (r : Result X E) → IfOk r (λ _. A) → IfOk r (λ _. B) → IfOk r (λ _. A × B)
both-ok A B (Ok x) a b = (a, b)
both-ok A B (Err e) a b = tt
