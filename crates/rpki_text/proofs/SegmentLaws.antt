-- A path cut at its slashes, and put together again.
use Rattle.std.proofs.Common.{◌≡◌, ℕ, ◌+◌, ◌-◌, ◌<◌, Bool, true, false, cond, eqb, List, [], ◌∷◌, ◌++◌, length, take}
use Rattle.std.proofs.Common.{drop, get_or, sym, refl, ap, None, Some, ◌∙◌, arith}
use Rattle.std.specs.List.{onto_first, before_first, after_first, position_or_len, slice_get}
use Rattle.std.proofs.lemmas.List.Splits.{slice_split_first, slice_split_none}
use Rattle.std.proofs.lemmas.List.{drop_all, take_all, take_more}
use Rattle.std.proofs.lemmas.Option.{slice_get-get_or, slice_get_within, get_or_from_slice_get}
use borrow.Author.Tests.{eqb-true}
use Rattle.std.proofs.lemmas.List.Sums.{fails_before_first}
use Rattle.std.proofs.lemmas.Grind.{common_steps}
use Rattle.rpki_text.specs.SegmentLaws.{IsFilled, pieces-filled}
use Rattle.rpki_text.specs.Segments.{is_slash, pieces, names_of, has_empty_last, segments, is_dir, path_text}

onto-first-append : (b : ℕ) (ps qs : List (List ℕ)) → IsFilled ps → onto_first b (ps ++ qs) ≡ onto_first b ps ++ qs
onto-first-append b ps qs f = rw f.is refl

-- a text cut at a slash has the pieces of both sides
pub pieces-append : (a b : List ℕ) → pieces (a ++ 47 ∷ b) ≡ pieces a ++ pieces b
pieces-append [] b = refl
pieces-append (x ∷ a) b =
    elim (is_slash x) as (λ v. cond v ([] ∷ pieces (a ++ 47 ∷ b)) (onto_first x (pieces (a ++ 47 ∷ b))) ≡ cond v
    ([] ∷ pieces a) (onto_first x (pieces a)) ++ pieces b) [
      | true ↦ ap (λ ps. [] ∷ ps) (pieces-append a b)
      | false ↦ ap (onto_first x) (pieces-append a b) ∙ onto-first-append x (pieces a) (pieces b) (pieces-filled a)
    ]

names_of-cons : (p : List ℕ) (qs : List (List ℕ)) → IsFilled qs → names_of (p ∷ qs) ≡ p ∷ names_of qs
names_of-cons p qs f = rw f.is (by_cases p f.first f.others) where
  by_cases : (p q : List ℕ) (qs : List (List ℕ)) → names_of (p ∷ q ∷ qs) ≡ p ∷ names_of (q ∷ qs)
  by_cases [] q qs = refl
  by_cases (x ∷ p) q qs = refl

has_empty_last-cons : (p : List ℕ) (qs : List (List ℕ)) → IsFilled qs → has_empty_last (p ∷ qs) ≡ has_empty_last qs
has_empty_last-cons p qs f = rw f.is (by_cases p f.first f.others) where
  by_cases : (p q : List ℕ) (qs : List (List ℕ)) → has_empty_last (p ∷ q ∷ qs) ≡ has_empty_last (q ∷ qs)
  by_cases [] q qs = refl
  by_cases (x ∷ p) q qs = refl

append-filled : (ps qs : List (List ℕ)) → IsFilled qs → IsFilled (ps ++ qs)
append-filled [] qs f = f
append-filled (p ∷ ps) qs f = record { first = p; others = ps ++ qs; is = refl }

pub names_of-append : (ps qs : List (List ℕ)) → IsFilled qs → names_of (ps ++ qs) ≡ ps ++ names_of qs
names_of-append [] qs f = refl
names_of-append (p ∷ ps) qs f =
    names_of-cons p (ps ++ qs) (append-filled ps qs f) ∙ ap (λ s. p ∷ s) (names_of-append ps qs f)

pub has_empty_last-append : (ps qs : List (List ℕ)) → IsFilled qs → has_empty_last (ps ++ qs) ≡ has_empty_last qs
has_empty_last-append [] qs f = refl
has_empty_last-append (p ∷ ps) qs f =
    has_empty_last-cons p (ps ++ qs) (append-filled ps qs f) ∙ has_empty_last-append ps qs f

-- what `next` does on a path with a slash
pub segments-cut : (t : List ℕ) → position_or_len is_slash t < length t
    → segments t ≡ before_first is_slash t ∷ segments (after_first is_slash t)
unfolding segments
segments-cut t h =
    ap names_of (slice_split_first is_slash t 0 h) ∙ names_of-cons _ _ (pieces-filled (after_first is_slash t))

pub is_dir-cut : (t : List ℕ) → position_or_len is_slash t < length t → is_dir t ≡ is_dir (after_first is_slash t)
unfolding is_dir
is_dir-cut t h = ap has_empty_last (slice_split_first is_slash t 0 h) ∙ has_empty_last-cons _ _
    (pieces-filled (after_first is_slash t))

pub segments-empty : segments [] ≡ []
unfolding segments
segments-empty = refl

pub segments-all : (t : List ℕ) → 0 < length t → position_or_len is_slash t ≡ length t
    → segments t ≡ t ∷ segments (drop (length t) t)
unfolding segments
segments-all [] l h = absurd (omega arith)
segments-all (b ∷ bs) l h =
    let none : pieces (b ∷ bs) ≡ (b ∷ bs) ∷ [] = slice_split_none is_slash (b ∷ bs)
    (λ k e m. let k' = fails_before_first is_slash (b ∷ bs) k e (rw h (grind (arith, common_steps))) in grind
    (arith, common_steps)) in
    ap names_of none ∙ ap (λ s. (b ∷ bs) ∷ names_of (pieces s))
    (sym (drop_all (length (b ∷ bs)) (b ∷ bs) (omega arith)))

pub ruleset segment_steps = (segments-cut, is_dir-cut, segments-all, segments-empty)

-- `&s[n..]`
pub tail-slice : (n : ℕ) (s : List ℕ) → take (length s - n) (drop n s) ≡ drop n s
tail-slice n s = grind (arith, common_steps)

-- a path by its last byte
onto-first-not-empty : (b : ℕ) (ps : List (List ℕ)) → has_empty_last ps ≡ false
    → has_empty_last (onto_first b ps) ≡ false
onto-first-not-empty b [] h = cc
onto-first-not-empty b ([] ∷ []) h = cc
onto-first-not-empty b ((x ∷ p) ∷ []) h = refl
onto-first-not-empty b ([] ∷ q ∷ qs) h = h
onto-first-not-empty b ((x ∷ p) ∷ q ∷ qs) h = h

pub is_dir-push-slash : (t : List ℕ) → is_dir (t ++ 47 ∷ []) ≡ true
unfolding is_dir
is_dir-push-slash t = ap has_empty_last (pieces-append t []) ∙ has_empty_last-append (pieces t) ([] ∷ [])
    (record { first = []; others = []; is = refl })

pub is_dir-push-other : (t : List ℕ) (b : ℕ) → is_slash b ≡ false → is_dir (t ++ b ∷ []) ≡ false
unfolding is_dir
is_dir-push-other [] b h = rw h refl
is_dir-push-other (x ∷ t) b h =
    elim (is_slash x) as (λ v. has_empty_last (cond v ([] ∷ pieces (t ++ b ∷ [])) (onto_first x (pieces (t ++ b ∷ []))))
    ≡ false) [
      | true ↦ has_empty_last-cons [] (pieces (t ++ b ∷ [])) (pieces-filled (t ++ b ∷ [])) ∙ is_dir-push-other t b h
      | false ↦ onto-first-not-empty x (pieces (t ++ b ∷ [])) (is_dir-push-other t b h)
    ]

pub is_dir-empty : is_dir [] ≡ true
unfolding is_dir
is_dir-empty = refl

pub path_text-none : (dir : Bool) → path_text [] dir ≡ []
unfolding path_text
path_text-none true = refl
path_text-none false = refl

-- what `last` says of a path
pub last-none : (t : List ℕ) → None ≡ slice_get t (length t - 1) → t ≡ []
last-none [] h = refl
last-none (b ∷ bs) h =
    let some : slice_get (b ∷ bs) (length (b ∷ bs) - 1) ≡ Some (get_or (b ∷ bs) (length (b ∷ bs) - 1) 0) =
    slice_get-get_or (b ∷ bs) _ 0 (omega arith) in cc

pub last-some : (t : List ℕ) (b : ℕ) → Some b ≡ slice_get t (length t - 1) → t ≡ take (length t - 1) t ++ b ∷ []
last-some t b h =
    let within : length t - 1 < length t = slice_get_within t (length t - 1) b (sym h) in
    let is : get_or t (length t - 1) 0 ≡ b = get_or_from_slice_get t (length t - 1) b 0 (sym h) in
    let n : length t ≡ length t - 1 + 1 = omega arith in
    sym (take_all (length t) t (omega arith)) ∙ ap (λ k. take k t) n ∙ take_more t (length t - 1) 0 within ∙ ap
    (λ x. take (length t - 1) t ++ x ∷ []) is

pub is_dir-last-none : (t : List ℕ) → None ≡ slice_get t (length t - 1) → is_dir t ≡ true
is_dir-last-none t h = ap is_dir (last-none t h) ∙ is_dir-empty

pub is_dir-last-some : (t : List ℕ) (b : ℕ) → Some b ≡ slice_get t (length t - 1) → is_dir t ≡ eqb b 47
is_dir-last-some t b h = ap is_dir (last-some t b h) ∙ by_cases (eqb b 47) refl where
  by_cases : (v : Bool) → eqb b 47 ≡ v → is_dir (take (length t - 1) t ++ b ∷ []) ≡ eqb b 47
  by_cases true e = let at : b ≡ 47 = eqb-true b 47 e in rw (e, at) (is_dir-push-slash (take (length t - 1) t))
  by_cases false e = is_dir-push-other (take (length t - 1) t) b e ∙ sym e
