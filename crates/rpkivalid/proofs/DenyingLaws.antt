-- Why nothing is written.
use Rattle.std.proofs.Common.{◌≡◌, ◌∙◌, ◌<◌, ◌+◌, ◌||◌, ℕ, zero, suc, Bool, true, false, List, [], ◌∷◌}
use Rattle.std.proofs.Common.{◌++◌, length, map}
use Rattle.std.proofs.Common.{Bor, ap, arith, bytes_eq, drop, get_or, refl, subst, sym, string_bytes, take}
use Rattle.std.proofs.lemmas.List.{length-map}
use Rattle.std.proofs.lemmas.Slice.Eq.{bytes_eq-Decides}
use Rattle.std.specs.Prelude.{Option, Some, None, Result, Ok, IfOk, IfSome}
use Rattle.std.specs.List.{list_any}
use Rattle.std.specs.Option.{unwrap_or}
use Rattle.rpki_payloads.specs.declared.exceptions.NamedExceptions.{NamedExceptions}
use Rattle.rpki_payloads.specs.Exceptions.{AreEach}
use Rattle.rpki_text.specs.declared.uri.error.Error.{Error}
use Rattle.rpki_text.specs.declared.uri.error.Error.TheVariants.{OutOfMemory}
use Rattle.rpkivalid.specs.declared.denial.Denial.{Denial}
use Rattle.rpkivalid.specs.declared.locators.Named.{Named}
use Rattle.rpkivalid.specs.Denied.{name_at}
use Rattle.rpkivalid.specs.Denying.{HasOther, IsExceptionsDenial, IsExceptionsDenialAt, IsLocatorDenial}
use Rattle.rpkivalid.specs.Denying.{IsLocatorDenialAt}
use Rattle.rpkivalid.specs.Denying.{IsNoFile, OfException, OfLocator, OfName}
use Rattle.rpkivalid.specs.Excepted.{AreFilesIn, IsFileIn}
use Rattle.rpkivalid.specs.Locators.{Holds, is_among, name_of}
use Rattle.rpkivalid.specs.LocatorsView.{AddsFirst, IsFirstDenial, IsNextDenial, OfFile, OfMemory, OfOther}

-- ---- what is in a file

module _ {E : Type 0} (holds : Holds) (path : List ℕ) (r : Result (Option (List ℕ)) E) where
  is-read : (files : List ℕ → Option (List ℕ)) (found : Option (List ℕ)) → IfOk r (λ o. o ≡ files path) → r ≡ Ok found
      → found ≡ files path
  is-read files found is ok = subst (λ (x : Result (Option (List ℕ)) E). IfOk x (λ o. o ≡ files path)) ok is

  pub no-file : (found : Option (List ℕ)) → IfSome holds (λ files. IfOk r (λ o. o ≡ files path)) → r ≡ Ok found
      → found ≡ None → IsNoFile holds path
  no-file found is ok none = by holds is where
    by : (h : Holds) → IfSome h (λ files. IfOk r (λ o. o ≡ files path)) → IsNoFile h path
    by None k = tt
    by (Some files) k = sym (is-read files found k ok) ∙ none

  pub other-file : (found : Option (List ℕ)) (octets : List ℕ) (P : List ℕ → Type 0)
      → IfSome holds (λ files. IfOk r (λ o. o ≡ files path)) → r ≡ Ok found → found ≡ Some octets → P octets
      → HasOther holds path P
  other-file found octets P is ok some other = by holds is where
    by : (h : Holds) → IfSome h (λ files. IfOk r (λ o. o ≡ files path)) → HasOther h path P
    by None k = tt
    by (Some files) k = (octets, sym (is-read files found k ok) ∙ some, other)

-- ---- an URI that is none

pub refused-by : (o : Option Error) (e : Error) → e ≡ unwrap_or o OutOfMemory → (e ≡ OutOfMemory → ⊥)
    → (x : Error) × (o ≡ Some x)
refused-by None e is other = absurd (other is)
refused-by (Some x) e is other = (x, refl)

-- ---- files of locators

-- what is at a place of these files
pub name-here : (paths : List (List ℕ)) (i : ℕ) (path : List ℕ) (rest : List (List ℕ)) → drop i paths ≡ path ∷ rest
    → (i < length paths) × (name_at paths i ≡ path)
name-here [] zero path rest e = absurd (let k : [] ≡ path ∷ rest = e in cc)
name-here [] (suc i) path rest e = absurd (let k : [] ≡ path ∷ rest = e in cc)
name-here (p ∷ ps) zero path rest e = (omega arith, ap (λ l. get_or l 0 []) e)
name-here (p ∷ ps) (suc i) path rest e = let (lt, same) = name-here ps i path rest e in (omega (arith, lt), same)

-- a name is that of one of the files, which isn't among the rest
abbrev pub IsFrom : (files rest : List (List ℕ)) → List ℕ → Type 0
IsFrom files rest name =
    (j : ℕ) × (j < length files) × (is_among rest (name_at files j) ≡ false) × (name ≡ name_of (name_at files j))

abbrev pub AreFrom : (files rest : List (List ℕ)) → List Named → Type 0
AreFrom files rest [] = Unit {0}
AreFrom files rest (one ∷ more) = IsFrom files rest (string_bytes one.name) × AreFrom files rest more

or-first : (a b : Bool) → (a || b) ≡ false → a ≡ false
or-first true b e = e
or-first false b e = refl

or-second : (a b : Bool) → (a || b) ≡ false → b ≡ false
or-second true b e = absurd (let k : true ≡ false = e in cc)
or-second false b e = e

module _ (files : List (List ℕ)) where
  from-less : (path : List ℕ) (rest : List (List ℕ)) (all : List Named) → AreFrom files (path ∷ rest) all
      → AreFrom files rest all
  from-less path rest [] h = tt
  from-less path rest (one ∷ more) (h, hs) =
      let (j, lt, none, is) = h in
      ((j, lt, or-second (bytes_eq path (name_at files j)) _ none, is), from-less path rest more hs)

  from-push : (rest : List (List ℕ)) (all : List Named) (one : Named) → AreFrom files rest all
      → IsFrom files rest (string_bytes one.name) → AreFrom files rest (all ++ one ∷ [])
  from-push rest [] one h is = (is, tt)
  from-push rest (x ∷ all) one (h, hs) is = (h, from-push rest all one hs is)

  -- those in the files in front are from the files
  pub from-step : (holds : Holds) (i : ℕ) (rest next : List (List ℕ)) (old new : List Named) → drop i files ≡ rest
      → drop (i + 1) files ≡ next → AddsFirst holds rest old new → AreFrom files rest old
      → i < length files → AreFrom files next new
  from-step holds i [] next old new e f adds from lt = absurd (none files i e lt) where
    none : (files : List (List ℕ)) (i : ℕ) → drop i files ≡ [] → i < length files → ⊥
    none [] i e lt = omega (arith, lt)
    none (p ∷ ps) zero e lt = let k : p ∷ ps ≡ [] = e in cc
    none (p ∷ ps) (suc i) e lt = none ps i e (omega (arith, lt))
  from-step holds i (path ∷ rest) next old new e f adds from lt =
      let on : suc i ≡ i + 1 = omega arith in
      let same : rest ≡ next = sym (after files i path rest e) ∙ (ap (λ n. drop n files) on ∙ f) in
      subst (λ (w : List (List ℕ)). AreFrom files w new) same (by (is_among rest path) refl) where
        after : (files : List (List ℕ)) (i : ℕ) (path : List ℕ) (rest : List (List ℕ)) → drop i files ≡ path ∷ rest
            → drop (suc i) files ≡ rest
        after [] zero path rest e = absurd (let k : [] ≡ path ∷ rest = e in cc)
        after [] (suc i) path rest e = absurd (let k : [] ≡ path ∷ rest = e in cc)
        after (p ∷ ps) zero path rest e = ap (λ l. drop 1 l) e
        after (p ∷ ps) (suc i) path rest e = after ps i path rest e

        by : (among : Bool) → is_among rest path ≡ among → AreFrom files rest new
        by true is = subst (λ (w : List Named). AreFrom files rest w) (sym (adds.0 is)) (from-less path rest old from)
        by false is =
            let (n, there, items) = adds.1 is in
            let (at, here) = name-here files i path rest e in
            subst (λ (w : List Named). AreFrom files rest w) (sym items)
            (from-push rest old n (from-less path rest old from) (
              i,
              lt,
              subst (λ (p : List ℕ). is_among rest p ≡ false) (sym here) is,
              there.name ∙ ap name_of (sym here),
            ))

  -- one of these has this name
  from-any : (rest : List (List ℕ)) (name : List ℕ) (all : List Named) → AreFrom files rest all
      → list_any (λ one. bytes_eq (string_bytes one.name) name) all ≡ true
      → (j : ℕ) × (j < length files) × (is_among rest (name_at files j) ≡ false) × (name_of (name_at files j) ≡ name)
  from-any rest name [] h e = absurd (let k : false ≡ true = e in cc)
  from-any rest name (one ∷ more) (h, hs) e =
      by (bytes_eq (string_bytes one.name) name) refl e (λ k. from-any rest name more hs k) where
        by : (b : Bool) → bytes_eq (string_bytes one.name) name ≡ b
            → (b || list_any (λ one. bytes_eq (string_bytes one.name) name) more) ≡ true
            → (list_any (λ one. bytes_eq (string_bytes one.name) name) more ≡ true → (j : ℕ) × (j < length files)
            × (is_among rest (name_at files j) ≡ false) × (name_of (name_at files j) ≡ name))
            → (j : ℕ) × (j < length files) × (is_among rest (name_at files j) ≡ false)
            × (name_of (name_at files j) ≡ name)
        by true is k on =
            let (j, lt, none, named) = h in
            (j, lt, none, sym named ∙ (bytes_eq-Decides (string_bytes one.name) name).0 is)
        by false is k on = on k

  -- why there is no locator in the first of those that remain
  pub first-denial : (holds : Holds) (i : ℕ) (rest : List (List ℕ)) (d : Denial) (old : List Named)
      → drop i files ≡ rest → IsFirstDenial holds rest i old d → AreFrom files rest old
      → IsLocatorDenial holds files d
  first-denial holds i [] d old e h from = absurd h
  first-denial holds i (path ∷ rest) d old e h from = by h where
    here : (i < length files) × (name_at files i ≡ path)
    here = name-here files i path rest e

    by : IsNextDenial holds path i old (is_among rest path) d → IsLocatorDenial holds files d
    by (OfFile k) = OfLocator i here.0 (subst (λ (p : List ℕ). IsLocatorDenialAt holds p i d) (sym here.1) k)
    by (OfMemory k) =
        OfLocator i here.0 (subst (λ (x : Denial). IsLocatorDenialAt holds (name_at files i) i x) (sym k) tt)
    by (OfOther k among named) =
        let (j, lt, none, same) = from-any (path ∷ rest) (name_of path) old from named in
        OfName i j here.0 lt k
        (subst (λ (p : List ℕ). bytes_eq p (name_at files j) ≡ false) (sym here.1)
        (or-first (bytes_eq path (name_at files j)) _ none))
        (same ∙ ap name_of (sym here.1))

-- ---- files of local exceptions

each-length : {A B : Type 0} (R : A → B → Type 0) (xs : List A) (ys : List B) → AreEach R xs ys → length xs ≡ length ys
each-length R [] [] h = refl
each-length R [] (y ∷ ys) h = absurd h
each-length R (x ∷ xs) [] h = absurd h
each-length R (x ∷ xs) (y ∷ ys) h = ap suc (each-length R xs ys h.1)

length-front : {A : Type 0} (xs : List A) (i : ℕ) → i < length xs → length (take i xs) ≡ i
length-front [] i lt = absurd (omega (arith, lt))
length-front (x ∷ xs) zero lt = refl
length-front (x ∷ xs) (suc i) lt = ap suc (length-front xs i (omega (arith, lt)))

file-at : (files : List (Bor (List ℕ))) (i : ℕ) (x : Bor (List ℕ)) → i < length files
    → name_at (map (λ file. file.now) files) i ≡ (get_or files i x).now
file-at [] i x lt = absurd (omega (arith, lt))
file-at (f ∷ files) zero x lt = refl
file-at (f ∷ files) (suc i) x lt = file-at files i x (omega (arith, lt))

-- why there are no exceptions in the next of these files
pub file-denial : (holds : Holds) (files : List (Bor (List ℕ))) (all : List NamedExceptions) (i : ℕ)
    (x : Bor (List ℕ)) (d : Denial) → i < length files → x ≡ get_or files i x → AreFilesIn holds (take i files) all
    → IsExceptionsDenialAt holds x.now (length all) d → IsExceptionsDenial holds (map (λ file. file.now) files) d
file-denial holds files all i x d lt is before h =
    let count : length all ≡ i =
    sym (each-length (λ file. IsFileIn holds file.now) (take i files) all before) ∙ length-front files i lt in
    let here : x.now ≡ name_at (map (λ file. file.now) files) i =
    ap (λ (f : Bor (List ℕ)). f.now) is ∙ sym (file-at files i x lt) in
    OfException i (subst (λ n. i < n) (sym (length-map files (λ file. file.now))) lt)
    (subst (λ (p : List ℕ). IsExceptionsDenialAt holds p i d) here
    (subst (λ n. IsExceptionsDenialAt holds x.now n d) count h))
