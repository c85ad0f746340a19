-- Paths whose segments each begin with another octet than a slash and a dot.
use Rattle.std.proofs.Common.{◌≡◌, ℕ, zero, suc, ◌+◌, ◌-◌, ◌<◌, ◌≤◌, ◌&&◌, ◌||◌, ◌==◌, nat_lt, nat_le, not, Bool, true}
use Rattle.std.proofs.Common.{false, List, [], ◌∷◌, ◌++◌, length, take, drop, get_or, bytes_eq, codes, None, Some}
use Rattle.std.proofs.Common.{Option, refl, sym, ap, ◌∙◌, arith}
use Rattle.std.specs.List.{before_first, after_first, position_or_len}
use Rattle.std.specs.Option.{option_or}
use Rattle.std.proofs.lemmas.List.{length-drop, length-take-le, drop_all, take-append-drop}
use Rattle.std.proofs.lemmas.List.Sums.{prefix_len-le-length}
use Rattle.std.proofs.lemmas.Bool.Decides.{nat_tests}
use borrow.Author.Tests.{eqb-true}
use Rattle.rpki_text.specs.Segments.{is_slash, is_dir, segments}
use Rattle.rpki_text.specs.declared.uri.error.Error.{Error}
use Rattle.rpki_text.specs.RsyncText.{piece_refusal, names_refusal}
use Rattle.rpki_text.proofs.SegmentLaws.{segments-cut, segments-all, segments-empty}
use Rattle.rpki_text.proofs.JoinLaws.{segments-closed}

-- a slash or a dot after a slash
abbrev pub is_odd : ℕ → ℕ → Bool
is_odd before b = is_slash before && (is_slash b || b == 46)

-- no slash or dot follows a slash, where another octet is before the list
abbrev pub are_ordinary : ℕ → List ℕ → Bool
are_ordinary before [] = true
are_ordinary before (b ∷ bs) = not (is_odd before b) && are_ordinary b bs

and-associates : (a b c : Bool) → (a && (b && c)) ≡ ((a && b) && c)
and-associates true b c = refl
and-associates false b c = refl

and-true : (a : Bool) → (a && true) ≡ a
and-true true = refl
and-true false = refl

and-first : (a b : Bool) → (a && b) ≡ true → a ≡ true
and-first true b e = refl
and-first false b e = e

and-second : (a b : Bool) → (a && b) ≡ true → b ≡ true
and-second true b e = e
and-second false b e = cc

-- one octet more
pub ordinary-more : (x : ℕ) (t : List ℕ) (i : ℕ) → 0 < i → i < length t
    → are_ordinary x (take (i + 1) t) ≡ (are_ordinary x (take i t) && not (is_odd (get_or t (i - 1) 0) (get_or t i 0)))
ordinary-more x [] i p h = absurd (omega (arith, h))
ordinary-more x (b ∷ bs) zero p h = absurd (omega (arith, p))
ordinary-more x (b ∷ []) (suc zero) p h = absurd (omega (arith, h))
ordinary-more x (b ∷ c ∷ bs) (suc zero) p h = and-step (not (is_odd x b)) (not (is_odd b c)) where
  and-step : (u v : Bool) → (u && (v && true)) ≡ ((u && true) && v)
  and-step true true = refl
  and-step true false = refl
  and-step false v = refl
ordinary-more x (b ∷ bs) (suc (suc i)) p h =
    let next = ordinary-more b bs (suc i) (omega arith) (omega (arith, h)) in
    let more : suc (suc i) + 1 ≡ suc (suc i + 1) = omega arith in
    let last : suc (suc i) - 1 ≡ suc (suc i - 1) = omega arith in
    rw (more, last) (ap (λ v. not (is_odd x b) && v) next ∙ and-associates (not (is_odd x b)) _ _)

drop-one : (b : ℕ) (s : List ℕ) (k : ℕ) → drop (suc k) (b ∷ s) ≡ drop k s
drop-one b s k = refl

-- what follows the first slash
after-step : (b : ℕ) (bs : List ℕ) → are_ordinary b bs ≡ true → position_or_len is_slash (b ∷ bs) < length (b ∷ bs)
    → (position_or_len is_slash bs < length bs → are_ordinary 47 (after_first is_slash bs) ≡ true)
    → are_ordinary 47 (after_first is_slash (b ∷ bs)) ≡ true
after-step b bs rest h next = by_slash (is_slash b) refl where
  by_slash : (v : Bool) → is_slash b ≡ v → are_ordinary 47 (after_first is_slash (b ∷ bs)) ≡ true
  by_slash true e =
      let at : b ≡ 47 = eqb-true b 47 e in
      let tail : after_first is_slash (b ∷ bs) ≡ bs = rw e refl in
      ap (are_ordinary 47) tail ∙ ap (λ c. are_ordinary c bs) (sym at) ∙ rest
  by_slash false e =
      let place : position_or_len is_slash (b ∷ bs) ≡ 1 + position_or_len is_slash bs = rw e refl in
      let next-place : position_or_len is_slash (b ∷ bs) + 1 ≡ suc (position_or_len is_slash bs + 1) =
      omega (arith, place) in
      let tail : after_first is_slash (b ∷ bs) ≡ after_first is_slash bs =
      ap (λ k. drop k (b ∷ bs)) next-place ∙ drop-one b bs (position_or_len is_slash bs + 1) in
      ap (are_ordinary 47) tail ∙ next (omega (arith, h, place))

ordinary-after : (x : ℕ) (t : List ℕ) → are_ordinary x t ≡ true → position_or_len is_slash t < length t
    → are_ordinary 47 (after_first is_slash t) ≡ true
ordinary-after x [] o h = absurd (omega (arith, h))
ordinary-after x (b ∷ bs) o h =
    let rest : are_ordinary b bs ≡ true = and-second (not (is_odd x b)) (are_ordinary b bs) o in
    after-step b bs rest h (λ l. ordinary-after b bs rest l)

-- a segment that begins with another octet, and is short
piece-good : (b : ℕ) (bs : List ℕ) → is_odd 47 b ≡ false → length (b ∷ bs) < 256 → piece_refusal (b ∷ bs) ≡ None
piece-good b bs o h =
    let dot : (b == 46) ≡ false = or-second (is_slash b) (b == 46) o in
    let some : (length (b ∷ bs) == 0) ≡ false = grind (arith, nat_tests) in
    let long : nat_le 256 (length (b ∷ bs)) ≡ false = grind (arith, nat_tests) in
    let one : bytes_eq (b ∷ bs) (codes ".") ≡ false = rw dot refl in
    let two : bytes_eq (b ∷ bs) (codes "..") ≡ false = rw dot refl in
    rw (some, one, two, long) refl where
      or-second : (u v : Bool) → (u || v) ≡ false → v ≡ false
      or-second true v e = cc
      or-second false v e = e

-- an octet that is neither a slash nor a dot is no slash
not-slash : (b : ℕ) → is_odd 47 b ≡ false → is_slash b ≡ false
not-slash b o = or-first (is_slash b) (b == 46) o where
  or-first : (u v : Bool) → (u || v) ≡ false → u ≡ false
  or-first true v e = cc
  or-first false v e = refl

not-false : (v : Bool) → not v ≡ true → v ≡ false
not-false true e = cc
not-false false e = refl

-- nothing is wrong with a segment that begins so, and then with the path where nothing is wrong after its slash
good-first : (b : ℕ) (bs : List ℕ) → length (b ∷ bs) < 256 → is_odd 47 b ≡ false
    → (position_or_len is_slash (b ∷ bs) < length (b ∷ bs) → names_refusal (segments (after_first is_slash (b ∷ bs))) ≡
    None)
    → names_refusal (segments (b ∷ bs)) ≡ None
good-first b bs h other after = by_place (nat_lt (position_or_len is_slash (b ∷ bs)) (length (b ∷ bs))) refl where
  place : position_or_len is_slash (b ∷ bs) ≡ suc (position_or_len is_slash bs)
  place = rw (not-slash b other) (omega arith)

  by_place : (v : Bool) → nat_lt (position_or_len is_slash (b ∷ bs)) (length (b ∷ bs)) ≡ v
      → names_refusal (segments (b ∷ bs)) ≡ None
  by_place true e =
      let l : position_or_len is_slash (b ∷ bs) < length (b ∷ bs) = grind (arith, nat_tests) in
      let first : before_first is_slash (b ∷ bs) ≡ b ∷ before_first is_slash bs = ap (λ k. take k (b ∷ bs)) place in
      let short : length (b ∷ before_first is_slash bs) < 256 = omega
      (arith, h, place, l, length-take-le (position_or_len is_slash bs) bs (omega (arith, l, place))) in
      ap names_refusal (segments-cut (b ∷ bs) l) ∙ ap
      (λ s. option_or (piece_refusal s) (names_refusal (segments (after_first is_slash (b ∷ bs))))) first
      ∙ ap (λ o. option_or o (names_refusal (segments (after_first is_slash (b ∷ bs)))))
      (piece-good b (before_first is_slash bs) other short) ∙ after l
  by_place false e =
      let whole : position_or_len is_slash (b ∷ bs) ≡ length (b ∷ bs) = grind
      (arith, nat_tests, prefix_len-le-length (λ x. not (is_slash x)) (b ∷ bs)) in
      let none : names_refusal (segments (drop (length (b ∷ bs)) (b ∷ bs))) ≡ None =
      ap (λ s. names_refusal (segments s)) (drop_all (length (b ∷ bs)) (b ∷ bs) (omega arith)) ∙ ap names_refusal
      segments-empty in
      ap names_refusal (segments-all (b ∷ bs) (omega arith) whole)
      ∙ ap (λ o. option_or o (names_refusal (segments (drop (length (b ∷ bs)) (b ∷ bs))))) (piece-good b bs other h) ∙
      none

good-by : (n : ℕ) (t : List ℕ) → length t ≤ n → length t < 256 → are_ordinary 47 t ≡ true
    → names_refusal (segments t) ≡ None
good-by n [] m h o = ap names_refusal segments-empty
good-by zero (b ∷ bs) m h o = absurd (omega (arith, m))
good-by (suc n) (b ∷ bs) m h o =
    let size = length-drop (position_or_len is_slash (b ∷ bs) + 1) (b ∷ bs) in
    good-first b bs h (not-false _ (and-first _ _ o))
    (λ l. good-by n (after_first is_slash (b ∷ bs)) (omega (arith, m, size)) (omega (arith, h, size))
    (ordinary-after 47 (b ∷ bs) o l))

pub ordinary-good : (t : List ℕ) → length t < 256 → are_ordinary 47 t ≡ true → names_refusal (segments t) ≡ None
ordinary-good t h o = good-by (length t) t (omega arith) h o

names-after : (us vs : List (List ℕ)) → names_refusal us ≡ None → names_refusal (us ++ vs) ≡ names_refusal vs
names-after [] vs h = refl
names-after (u ∷ us) vs h =
    by_first (piece_refusal u) (names_refusal us) (names_refusal (us ++ vs)) h (λ k. names-after us vs k) where
      by_first : (p q r : Option Error) → option_or p q ≡ None → (q ≡ None → r ≡ names_refusal vs)
          → option_or p r ≡ names_refusal vs
      by_first None q r k f = f k
      by_first (Some x) q r k f = cc

-- a front with which nothing is wrong, up to a slash
pub front-skipped : (t : List ℕ) (n : ℕ) → is_dir (take n t) ≡ true → names_refusal (segments (take n t)) ≡ None
    → names_refusal (segments t) ≡ names_refusal (segments (drop n t))
front-skipped t n d g =
    ap (λ s. names_refusal (segments s)) (sym (take-append-drop n t)) ∙ ap names_refusal
    (segments-closed (take n t) (drop n t) d)
    ∙ names-after (segments (take n t)) (segments (drop n t)) g

pub take-within : (n m : ℕ) (t : List ℕ) → n ≤ m → take n (take m t) ≡ take n t
take-within zero m t h = refl
take-within (suc n) zero t h = absurd (omega (arith, h))
take-within (suc n) (suc m) [] h = refl
take-within (suc n) (suc m) (b ∷ t) h = ap (λ s. b ∷ s) (take-within n m t (omega (arith, h)))
