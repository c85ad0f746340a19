-- A text that is longer or shorter at its end, and what it then stands for.
use Rattle.std.proofs.Common.{◌≡◌, ℕ, ◌+◌, ◌-◌, ◌<◌, ◌≤◌, Bool, true, false, cond, not, ◌&&◌, List, [], ◌∷◌, ◌++◌}
use Rattle.std.proofs.Common.{length, get_or, take, drop, codes, eq-eqb, Option, Some, None, bytes_eq, nat_le, sym}
use Rattle.std.proofs.Common.{refl, ap, subst, ◌∙◌, ◌⊎◌, inl, inr, arith}
use Rattle.std.specs.List.{list_all, position_or_len}
use Rattle.std.specs.Option.{option_or, option_map}
use Rattle.std.proofs.lemmas.List.{take-append-drop, length-take-le, get_or-take, get_or-drop, take-append-le}
use Rattle.std.proofs.lemmas.List.{drop-append-le, take_all, take_more, length-append, length-drop, append_assoc}
use Rattle.std.proofs.lemmas.List.{append-nil}
use Rattle.std.proofs.lemmas.List.Folds.{list_all-append}
use Rattle.std.proofs.lemmas.List.Sums.{passes_at_first}
use borrow.Author.Tests.{eqb-true}
use Rattle.std.proofs.Math.Seq.{drop-append_seam, take-append_seam, take-append-add}
use Rattle.std.proofs.lemmas.Bool.Decides.{nat_tests}
use Rattle.rpki_text.specs.declared.uri.error.Error.{Error}
use Rattle.rpki_text.specs.declared.uri.error.Error.TheVariants.{LongUri, InvalidCharacters}
use Rattle.rpki_text.specs.SegmentLaws.{pieces-filled, path_text-segments}
use Rattle.rpki_text.specs.Segments.{IsParentLen, is_slash, pieces, names_of, has_empty_last, segments, is_dir}
use Rattle.rpki_text.specs.Segments.{path_text, with_slash}
use Rattle.rpki_text.specs.UriText.{lowercase, is_uri_byte}
use Rattle.rpki_text.specs.RsyncText.{piece_refusal, names_refusal, authority_of, module_name_of, path_of, IsCut}
use Rattle.rpki_text.specs.RsyncText.{RsyncUri, uri_of, relative, strip_prefix, parent_of, parent_uri, without_last}
use Rattle.rpki_text.specs.RsyncText.{joined, join_refusal, path_refusal}
use Rattle.rpki_text.proofs.SegmentLaws.{pieces-append, names_of-append, has_empty_last-append, is_dir-push-slash}
use Rattle.rpki_text.proofs.SegmentLaws.{is_dir-push-other, is_dir-empty, segments-empty, path_text-none}
use Rattle.rpki_text.proofs.UriLaws.{module-stands}
use Rattle.rpki_text.proofs.CutLaws.{cut-facts, list-all-take}

-- ---- with_slash and what is joined to it

-- the names before a last slash are all the pieces there
pub segments-before-slash : (t : List ℕ) → segments (t ++ 47 ∷ []) ≡ pieces t
unfolding segments
segments-before-slash t = ap names_of (pieces-append t []) ∙ names_of-append (pieces t) ([] ∷ [])
    (record { first = []; others = []; is = refl }) ∙ append-nil (pieces t)

-- a path that has no slash last has each piece as a segment
pub names_of-open : (ps : List (List ℕ)) → has_empty_last ps ≡ false → names_of ps ≡ ps
names_of-open [] h = refl
names_of-open ([] ∷ []) h = cc
names_of-open ((b ∷ bs) ∷ []) h = refl
names_of-open ([] ∷ q ∷ qs) h = ap (λ s. [] ∷ s) (names_of-open (q ∷ qs) h)
names_of-open ((b ∷ bs) ∷ q ∷ qs) h = ap (λ s. (b ∷ bs) ∷ s) (names_of-open (q ∷ qs) h)

pub open-path : (t : List ℕ) → is_dir t ≡ false → segments t ≡ pieces t
unfolding segments is_dir
open-path t h = names_of-open (pieces t) h

pub segments-at-slash : (t p : List ℕ) → segments (t ++ 47 ∷ p) ≡ pieces t ++ segments p
unfolding segments
segments-at-slash t p = ap names_of (pieces-append t p) ∙ names_of-append (pieces t) (pieces p) (pieces-filled p)

pub is_dir-at-slash : (t p : List ℕ) → is_dir (t ++ 47 ∷ p) ≡ is_dir p
unfolding is_dir
is_dir-at-slash t p =
    ap has_empty_last (pieces-append t p) ∙ has_empty_last-append (pieces t) (pieces p) (pieces-filled p)

-- a list that is not empty by its last element
pub split-last : (t : List ℕ) → 0 < length t → t ≡ take (length t - 1) t ++ get_or t (length t - 1) 0 ∷ []
split-last t h =
    let n : length t ≡ length t - 1 + 1 = omega arith in
    sym (take_all (length t) t (omega arith)) ∙ ap (λ k. take k t) n ∙ take_more t (length t - 1) 0 (omega arith)

-- what a path is at its end
abbrev pub SlashCases : List ℕ → Type 0
SlashCases t = (is_dir t ≡ false) ⊎ ((t ≡ []) ⊎ ((f : List ℕ) × (t ≡ f ++ 47 ∷ [])))

slash-cases-at : (t front : List ℕ) (last : ℕ) (v : Bool) → t ≡ front ++ last ∷ [] → is_slash last ≡ v → SlashCases t
slash-cases-at t front last true h e = inr (inr (front, h ∙ ap (λ b. front ++ b ∷ []) (eqb-true last 47 e)))
slash-cases-at t front last false h e = inl (ap is_dir h ∙ is_dir-push-other front last e)

pub slash-cases : (t : List ℕ) → SlashCases t
slash-cases [] = inr (inl refl)
slash-cases (x ∷ xs) = slash-cases-at (x ∷ xs) _ _ _ (split-last (x ∷ xs) (omega arith)) refl

pub with_slash-dir : (t : List ℕ) → is_dir t ≡ true → with_slash t ≡ t
unfolding with_slash
with_slash-dir t h = rw h refl

pub with_slash-open : (t : List ℕ) → is_dir t ≡ false → with_slash t ≡ t ++ 47 ∷ []
unfolding with_slash
with_slash-open t h = rw h refl

pub segments-joined : (t p : List ℕ) → segments (with_slash t ++ p) ≡ segments t ++ segments p
segments-joined t p = by_cases (slash-cases t) where
  by_cases : SlashCases t → segments (with_slash t ++ p) ≡ segments t ++ segments p
  by_cases (inl h) =
      rw (with_slash-open t h) (ap segments (append_assoc t (47 ∷ []) p) ∙ segments-at-slash t p ∙ ap
      (λ s. s ++ segments p) (sym (open-path t h)))
  by_cases (inr (inl e)) = rw e (ap (λ s. segments (s ++ p)) (with_slash-dir [] is_dir-empty) ∙ sym
      (ap (λ s. s ++ segments p) segments-empty))
  by_cases (inr (inr (f, e))) =
      rw e (ap (λ s. segments (s ++ p)) (with_slash-dir (f ++ 47 ∷ []) (is_dir-push-slash f)) ∙ ap segments
      (append_assoc f (47 ∷ []) p) ∙ segments-at-slash f p ∙ ap (λ s. s ++ segments p) (sym (segments-before-slash f)))

pub is_dir-joined : (t p : List ℕ) → is_dir (with_slash t ++ p) ≡ is_dir p
is_dir-joined t p = by_cases (slash-cases t) where
  by_cases : SlashCases t → is_dir (with_slash t ++ p) ≡ is_dir p
  by_cases (inl h) = rw (with_slash-open t h) (ap is_dir (append_assoc t (47 ∷ []) p) ∙ is_dir-at-slash t p)
  by_cases (inr (inl e)) = rw e (ap (λ s. is_dir (s ++ p)) (with_slash-dir [] is_dir-empty))
  by_cases (inr (inr (f, e))) =
      rw e (ap (λ s. is_dir (s ++ p)) (with_slash-dir (f ++ 47 ∷ []) (is_dir-push-slash f)) ∙ ap is_dir
      (append_assoc f (47 ∷ []) p) ∙ is_dir-at-slash f p)

-- ---- the rest of a list of names

option-or-append : (o r s : Option Error) → option_or o r ≡ None → (r ≡ None → s ≡ None) → option_or o s ≡ None
option-or-append None r s h k = k h
option-or-append (Some e) r s h k = cc

pub names_refusal-append : (us vs : List (List ℕ)) → names_refusal us ≡ None → names_refusal vs ≡ None
    → names_refusal (us ++ vs) ≡ None
names_refusal-append [] vs h k = k
names_refusal-append (u ∷ us) vs h k = option-or-append (piece_refusal u) (names_refusal us) (names_refusal (us ++ vs))
    h (λ l. names_refusal-append us vs l k)

bytes-eq-same : (u : List ℕ) → bytes_eq u u ≡ true
bytes-eq-same [] = refl
bytes-eq-same (x ∷ xs) = rw (eq-eqb x x refl) (bytes-eq-same xs)

pub strip_prefix-append : (vs r : List (List ℕ)) → strip_prefix (vs ++ r) vs ≡ Some r
strip_prefix-append [] r = refl
strip_prefix-append (v ∷ vs) r = rw (bytes-eq-same v) (strip_prefix-append vs r)

-- ---- a text that goes on after its path's beginning

position-append : (xs ys : List ℕ) → position_or_len is_slash xs < length xs
    → position_or_len is_slash (xs ++ ys) ≡ position_or_len is_slash xs
position-append [] ys h = absurd (omega arith)
position-append (x ∷ xs) ys h = position_at (is_slash x) h (λ l. position-append xs ys l) where
  position_at : (v : Bool) → cond (not v) (1 + position_or_len is_slash xs) 0 < length (x ∷ xs)
      → (position_or_len is_slash xs < length xs → position_or_len is_slash (xs ++ ys) ≡ position_or_len is_slash xs)
      → cond (not v) (1 + position_or_len is_slash (xs ++ ys)) 0 ≡ cond (not v) (1 + position_or_len is_slash xs) 0
  position_at true h k = refl
  position_at false h k = ap (λ n. 1 + n) (k (omega arith))

position-front : (xs ys : List ℕ) → position_or_len is_slash (xs ++ ys) < length xs
    → position_or_len is_slash xs ≡ position_or_len is_slash (xs ++ ys)
position-front [] ys h = absurd (omega arith)
position-front (x ∷ xs) ys h = position_at (is_slash x) h (λ l. position-front xs ys l) where
  position_at : (v : Bool) → cond (not v) (1 + position_or_len is_slash (xs ++ ys)) 0 < length (x ∷ xs)
      → (position_or_len is_slash (xs ++ ys) < length xs → position_or_len is_slash xs ≡ position_or_len is_slash
      (xs ++ ys))
      → cond (not v) (1 + position_or_len is_slash xs) 0 ≡ cond (not v) (1 + position_or_len is_slash (xs ++ ys)) 0
  position_at true h k = refl
  position_at false h k = ap (λ n. 1 + n) (k (omega arith))

-- a place found before the end of the front is found there whatever follows
pub place-kept : (f y z : List ℕ) (n : ℕ) → n + position_or_len is_slash (drop n (f ++ y)) < length f
    → position_or_len is_slash (drop n (f ++ z)) ≡ position_or_len is_slash (drop n (f ++ y))
place-kept f y z n h =
    let le : n ≤ length f = omega arith in
    let l : length (drop n f) ≡ length f - n = length-drop n f in
    let ey : position_or_len is_slash (drop n (f ++ y)) ≡ position_or_len is_slash (drop n f ++ y) = ap
    (position_or_len is_slash) (drop-append-le n f y le) in
    let ef : position_or_len is_slash (drop n f) ≡ position_or_len is_slash (drop n f ++ y) = position-front (drop n f)
    y (omega arith) in
    ap (position_or_len is_slash) (drop-append-le n f z le) ∙ position-append (drop n f) z (omega arith) ∙ ef ∙ sym ey

take-kept : (f y z : List ℕ) (n k : ℕ) → n + k ≤ length f → take k (drop n (f ++ z)) ≡ take k (drop n (f ++ y))
take-kept f y z n k h =
    let l : length (drop n f) ≡ length f - n = length-drop n f in
    let part : (w : List ℕ)
    → take k (drop n (f ++ w)) ≡ take k (drop n f) = λ w. ap (take k) (drop-append-le n f w (omega arith)) ∙
    take-append-le k (drop n f) w (omega arith) in
    part z ∙ sym (part y)

-- a cut text: what is before its path ends with a slash
pub record Head (t : List ℕ) (m p : ℕ) : Type 0 where
  pub head : List ℕ
  pub long : length head + 1 ≡ p
  pub is : t ≡ (head ++ 47 ∷ []) ++ path_of t

pub head-of : (t : List ℕ) (m p : ℕ) → IsCut t m p → Head t m p
head-of t m p c =
    let facts = cut-facts t m p c in
    let n = position_or_len is_slash (drop m t) in
    let ep : p ≡ m + n + 1 = c.path_starts in
    let ld : length (drop m t) ≡ length t - m = length-drop m t in
    let lt : length (take p t) ≡ p = length-take-le p t facts.fits in
    let within : n < length (drop m t) = omega (arith, facts.fits) in
    let byte : get_or (take p t) (length (take p t) - 1) 0 ≡ 47 =
    get_or-take p t (length (take p t) - 1) 0 (omega (arith, facts.fits)) ∙ ap (λ k. get_or t k 0) (omega arith) ∙ sym
    (get_or-drop m t n 0) ∙ eqb-true _ 47 (passes_at_first is_slash (drop m t) 0 within) in
    let front : take p t ≡ take (length (take p t) - 1) (take p t) ++ 47 ∷ [] =
    split-last (take p t) (omega arith) ∙ ap (λ b. take (length (take p t) - 1) (take p t) ++ b ∷ []) byte in
    let lf : length (take (length (take p t) - 1) (take p t)) ≡ length (take p t) - 1 = length-take-le _ (take p t)
    (omega arith) in
    record {
      head = take (length (take p t) - 1) (take p t);
      long = omega arith;
      is = sym (take-append-drop p t) ∙ ap (λ f. f ++ drop p t) front ∙ ap
          (λ y. (take (length (take p t) - 1) (take p t) ++ 47 ∷ []) ++ y) (sym facts.path_is);
    }

names_refusal-front : (us vs : List (List ℕ)) → names_refusal (us ++ vs) ≡ None → names_refusal us ≡ None
names_refusal-front [] vs h = refl
names_refusal-front (u ∷ us) vs h = option-or-append (piece_refusal u) (names_refusal (us ++ vs)) (names_refusal us) h
    (λ l. names_refusal-front us vs l)

pub option-or-rest : (o r : Option Error) → option_or o r ≡ None → r ≡ None
option-or-rest None r h = h
option-or-rest (Some e) r h = cc

pub names_refusal-back : (us vs : List (List ℕ)) → names_refusal (us ++ vs) ≡ None → names_refusal vs ≡ None
names_refusal-back [] vs h = h
names_refusal-back (u ∷ us) vs h =
    names_refusal-back us vs (option-or-rest (piece_refusal u) (names_refusal (us ++ vs)) h)

-- after the scheme, the names are those before the path and those of the path
behind-scheme : (g y : List ℕ) → 8 ≤ length g
    → segments (drop 8 ((g ++ 47 ∷ []) ++ y)) ≡ pieces (drop 8 g) ++ segments y
behind-scheme g y h = ap segments (ap (drop 8) (append_assoc g (47 ∷ []) y) ∙ drop-append-le 8 g (47 ∷ y) h) ∙
    segments-at-slash (drop 8 g) y

and-both : (a b : Bool) → a ≡ true → b ≡ true → (a && b) ≡ true
and-both true b h k = k
and-both false b h k = h

front-passes : (f y : List ℕ) → list_all is_uri_byte (f ++ y) ≡ true → list_all is_uri_byte f ≡ true
front-passes f y h = and_first _ _ (sym (list_all-append is_uri_byte f y) ∙ h) where
  and_first : (a b : Bool) → (a && b) ≡ true → a ≡ true
  and_first true b e = refl
  and_first false b e = e

-- the text with another path
pub cut-changed : (t : List ℕ) (m p : ℕ) → IsCut t m p → (h : Head t m p) (y : List ℕ) → list_all is_uri_byte y ≡ true
    → names_refusal (segments y) ≡ None
    → IsCut ((h.head ++ 47 ∷ []) ++ y) m p
cut-changed t m p c h y good names =
    let facts = cut-facts t m p c in
    let f : List ℕ = h.head ++ 47 ∷ [] in
    let lf : length f ≡ p = length-append h.head (47 ∷ []) ∙ h.long in
    let em : m ≡ 9 + position_or_len is_slash (drop 8 t) = c.module_starts in
    let ep : p ≡ m + position_or_len is_slash (drop m t) + 1 = c.path_starts in
    let at : (n : ℕ)
    → position_or_len is_slash (drop n t) ≡ position_or_len is_slash (drop n (f ++ path_of t)) = λ n. ap
    (λ s. position_or_len is_slash (drop n s)) h.is in
    let m_at : position_or_len is_slash (drop 8 (f ++ y)) ≡ position_or_len is_slash (drop 8 t) =
    place-kept f (path_of t) y 8 (omega (arith, at 8, facts.module_name)) ∙ sym (at 8) in
    let p_at : position_or_len is_slash (drop m (f ++ y)) ≡ position_or_len is_slash (drop m t) =
    place-kept f (path_of t) y m (omega (arith, at m)) ∙ sym (at m) in
    let whole : list_all is_uri_byte (f ++ path_of t) ≡ true = sym (ap (list_all is_uri_byte) h.is) ∙ c.form.characters
    in
    let scheme : take 8 (f ++ y) ≡ take 8 t = take-kept f (path_of t) y 0 8
    (omega (arith, facts.module_name, facts.authority)) ∙ sym (ap (take 8) h.is) in
    let before : names_refusal (pieces (drop 8 h.head)) ≡ None =
    names_refusal-front (pieces (drop 8 h.head)) (segments (path_of t))
    (sym (ap names_refusal (behind-scheme h.head (path_of t)
    (omega (arith, h.long, facts.module_name, facts.authority)))) ∙ sym
    (ap (λ s. names_refusal (segments (drop 8 s))) h.is) ∙ c.form.names) in
    record {
      form = record {
        characters = list_all-append is_uri_byte f y ∙ and-both _ _ (front-passes f (path_of t) whole) good;
        scheme = ap (λ s. bytes_eq (lowercase s) (codes "rsync://")) scheme ∙ c.form.scheme;
        names = ap names_refusal (behind-scheme h.head y (omega (arith, h.long, facts.module_name, facts.authority))) ∙
            names_refusal-append (pieces (drop 8 h.head)) (segments y) before names;
        full = module-stands (f ++ y) (m - 9) (p - m - 1) (omega arith)
            (omega (arith, facts.authority) ∙ sym p_at ∙ ap (λ n. position_or_len is_slash (drop n (f ++ y)))
            (omega arith)) (omega (arith, facts.authority)) (omega (arith, facts.module_name))
            (omega (arith, length-append f y, lf, facts.module_name, facts.authority));
      };
      module_starts = omega arith;
      path_starts = omega arith;
    }

-- what the changed text stands for: the same authority and module, and the other path
pub record SameModule (s t : List ℕ) : Type 0 where
  pub authority : authority_of s ≡ authority_of t
  pub module_name : module_name_of s ≡ module_name_of t

pub same_module : (t : List ℕ) (m p : ℕ) → IsCut t m p → (h : Head t m p) (y : List ℕ)
    → IsCut ((h.head ++ 47 ∷ []) ++ y) m p
    → SameModule ((h.head ++ 47 ∷ []) ++ y) t
same_module t m p c h y d =
    let facts = cut-facts t m p c in
    let other = cut-facts ((h.head ++ 47 ∷ []) ++ y) m p d in
    let f : List ℕ = h.head ++ 47 ∷ [] in
    let lf : length f ≡ p = length-append h.head (47 ∷ []) ∙ h.long in
    record {
      authority = other.authority_is ∙ take-kept f (path_of t) y 8 (m - 9)
          (omega (arith, facts.module_name, facts.authority)) ∙ sym (ap (λ s. take (m - 9) (drop 8 s)) h.is) ∙ sym
          facts.authority_is;
      module_name = other.module_name_is ∙ take-kept f (path_of t) y m (p - m - 1)
          (omega (arith, facts.module_name, facts.authority)) ∙ sym (ap (λ s. take (p - m - 1) (drop m s)) h.is) ∙ sym
          facts.module_name_is;
    }

pub changed-path : (t : List ℕ) (m p : ℕ) (h : Head t m p) (y : List ℕ) → IsCut ((h.head ++ 47 ∷ []) ++ y) m p
    → path_of ((h.head ++ 47 ∷ []) ++ y) ≡ y
changed-path t m p h y d =
    let other = cut-facts ((h.head ++ 47 ∷ []) ++ y) m p d in
    other.path_is ∙ ap (λ n. drop n ((h.head ++ 47 ∷ []) ++ y)) (sym h.long ∙ sym (length-append h.head (47 ∷ []))) ∙
    drop-append_seam (h.head ++ 47 ∷ []) y

pub uri_of-changed : (t : List ℕ) (m p : ℕ) → IsCut t m p → (h : Head t m p) (y : List ℕ)
    → IsCut ((h.head ++ 47 ∷ []) ++ y) m p
    → uri_of ((h.head ++ 47 ∷ []) ++ y) ≡ record {
      authority = (uri_of t).authority;
      module_name = (uri_of t).module_name;
      segments = segments y;
      is_dir = is_dir
          y;
    }
unfolding uri_of
uri_of-changed t m p c h y d =
    let same = same_module t m p c h y d in
    let path = changed-path t m p h y d in
    rw (same.authority, same.module_name, path) refl

-- a slash is put at the end of the path
with_slash-text : (t : List ℕ) (m p : ℕ) (h : Head t m p) → with_slash t ≡ (h.head ++ 47 ∷ []) ++ with_slash (path_of t)
with_slash-text t m p h =
    let dir : is_dir t ≡ is_dir (path_of t) = ap is_dir (h.is ∙ append_assoc h.head (47 ∷ []) (path_of t)) ∙
    is_dir-at-slash h.head (path_of t) in
    by_cases (is_dir (path_of t)) dir refl where
      by_cases : (v : Bool) → is_dir t ≡ v → is_dir (path_of t) ≡ v
          → with_slash t ≡ (h.head ++ 47 ∷ []) ++ with_slash (path_of t)
      by_cases true d e =
          with_slash-dir t d ∙ h.is ∙ ap (λ y. (h.head ++ 47 ∷ []) ++ y) (sym (with_slash-dir (path_of t) e))
      by_cases false d e = with_slash-open t d ∙ ap (λ s. s ++ 47 ∷ []) h.is ∙ append_assoc (h.head ++ 47 ∷ [])
          (path_of t) (47 ∷ []) ∙ ap (λ y. (h.head ++ 47 ∷ []) ++ y) (sym (with_slash-open (path_of t) e))

pub joined-text : (t p : List ℕ) (m n : ℕ) (h : Head t m n)
    → with_slash t ++ p ≡ (h.head ++ 47 ∷ []) ++ (with_slash (path_of t) ++ p)
joined-text t p m n h =
    ap (λ s. s ++ p) (with_slash-text t m n h) ∙ append_assoc (h.head ++ 47 ∷ []) (with_slash (path_of t)) p

pub path-names : (t : List ℕ) (m n : ℕ) → IsCut t m n → Head t m n → names_refusal (segments (path_of t)) ≡ None
path-names t m n c h =
    let facts = cut-facts t m n c in
    names_refusal-back (pieces (drop 8 h.head)) (segments (path_of t))
    (sym (ap names_refusal (behind-scheme h.head (path_of t)
    (omega (arith, h.long, facts.module_name, facts.authority)))) ∙ sym
    (ap (λ s. names_refusal (segments (drop 8 s))) h.is) ∙ c.form.names)

with_slash-passes : (y : List ℕ) → list_all is_uri_byte y ≡ true → list_all is_uri_byte (with_slash y) ≡ true
unfolding with_slash is_uri_byte
with_slash-passes y h = by_cases (is_dir y) where
  by_cases : (v : Bool) → list_all is_uri_byte (cond v y (y ++ 47 ∷ [])) ≡ true
  by_cases true = h
  by_cases false = list_all-append is_uri_byte y (47 ∷ []) ∙ and-both _ _ h refl

pub cut-joined : (t : List ℕ) (m n : ℕ) → IsCut t m n → (p : List ℕ) → list_all is_uri_byte p ≡ true
    → names_refusal (segments p) ≡ None → IsCut (with_slash t ++ p) m n
cut-joined t m n c p good names =
    let facts = cut-facts t m n c in
    let h = head-of t m n c in
    let y : List ℕ = with_slash (path_of t) ++ p in
    let good_y : list_all is_uri_byte y ≡ true = list_all-append is_uri_byte (with_slash (path_of t)) p ∙ and-both _ _
    (with_slash-passes (path_of t) facts.path_passes) good in
    let names_y : names_refusal (segments y) ≡ None =
    ap names_refusal (segments-joined (path_of t) p) ∙ names_refusal-append (segments (path_of t)) (segments p)
    (path-names t m n c h) names in
    subst (λ (s : List ℕ). IsCut s m n) (sym (joined-text t p m n h)) (cut-changed t m n c h y good_y names_y)

-- the URI with the segments of the path after its own
pub uri_of-joined : (t : List ℕ) (m n : ℕ) → IsCut t m n → (p : List ℕ) → list_all is_uri_byte p ≡ true
    → names_refusal (segments p) ≡ None
    → uri_of (with_slash t ++ p) ≡ record {
      authority = (uri_of t).authority;
      module_name = (uri_of t).module_name;
      segments = (uri_of t).segments ++
          segments p;
      is_dir = is_dir p;
    }
unfolding uri_of
uri_of-joined t m n c p good names =
    let h = head-of t m n c in
    let y : List ℕ = with_slash (path_of t) ++ p in
    let d : IsCut ((h.head ++ 47 ∷ []) ++ y) m n = subst (λ (s : List ℕ). IsCut s m n) (joined-text t p m n h)
    (cut-joined t m n c p good names) in
    ap uri_of (joined-text t p m n h) ∙ uri_of-changed t m n c h y d ∙ rw
    (segments-joined (path_of t) p, is_dir-joined (path_of t) p) refl

bytes-eq-refl : (u v : RsyncUri) → u.authority ≡ v.authority → u.module_name ≡ v.module_name
    → (bytes_eq u.authority v.authority && bytes_eq u.module_name v.module_name) ≡ true
bytes-eq-refl u v a m = rw (a, m, bytes-eq-same v.authority, bytes-eq-same v.module_name) refl

-- the path from a URI to one that has more segments
pub relative-longer : (u v : RsyncUri) (left : List (List ℕ)) → u.authority ≡ v.authority
    → u.module_name ≡ v.module_name → u.segments ≡ v.segments ++ left → relative u v ≡ Some (path_text left u.is_dir)
unfolding relative
relative-longer u v left a m s = rw (bytes-eq-refl u v a m, s, strip_prefix-append v.segments left) refl

pub relative-joined : (t : List ℕ) (m n : ℕ) → IsCut t m n → (p : List ℕ) → list_all is_uri_byte p ≡ true
    → names_refusal (segments p) ≡ None
    → relative (uri_of (joined t p)) (uri_of t) ≡ Some p
unfolding joined
relative-joined t m n c [] good names = relative-longer (uri_of t) (uri_of t) [] refl refl
    (sym (append-nil (uri_of t).segments)) ∙ ap Some (path_text-none (uri_of t).is_dir)
relative-joined t m n c (b ∷ bs) good names =
    let e = uri_of-joined t m n c (b ∷ bs) good names in
    relative-longer (uri_of (with_slash t ++ b ∷ bs)) (uri_of t) (segments (b ∷ bs)) (ap (λ u. u.authority) e)
    (ap (λ u. u.module_name) e) (ap (λ u. u.segments) e)
    ∙ ap Some (ap (λ u. path_text (segments (b ∷ bs)) u.is_dir) e ∙ path_text-segments (b ∷ bs))

-- ---- what a join rejects

pub is_dir-text : (t : List ℕ) (m p : ℕ) → IsCut t m p → is_dir t ≡ is_dir (path_of t)
is_dir-text t m p c = let h = head-of t m p c in ap is_dir (h.is ∙ append_assoc h.head (47 ∷ []) (path_of t)) ∙
    is_dir-at-slash h.head (path_of t)

pub with_slash-flag : (t : List ℕ) (m p : ℕ) → IsCut t m p
    → cond (not (is_dir (path_of t))) (t ++ 47 ∷ []) t ≡ with_slash t
unfolding with_slash
with_slash-flag t m p c = rw (← is_dir-text t m p c) (by_cases (is_dir t)) where
  by_cases : (v : Bool) → cond (not v) (t ++ 47 ∷ []) t ≡ cond v t (t ++ 47 ∷ [])
  by_cases true = refl
  by_cases false = refl

pub joined-filled : (t p : List ℕ) → 0 < length p → joined t p ≡ with_slash t ++ p
unfolding joined
joined-filled t [] l = absurd (omega arith)
joined-filled t (b ∷ p) l = refl

pub join-refuses-characters : (t p : List ℕ) → 0 < length p → list_all is_uri_byte p ≡ false
    → join_refusal t p ≡ Some InvalidCharacters
unfolding join_refusal
join-refuses-characters t [] l h = absurd (omega arith)
join-refuses-characters t (b ∷ p) l h = rw h refl

pub join-refuses-path : (t p : List ℕ) (e : Error) → 0 < length p → list_all is_uri_byte p ≡ true
    → path_refusal p ≡ Some e → join_refusal t p ≡ Some e
unfolding join_refusal
join-refuses-path t [] e l h k = absurd (omega arith)
join-refuses-path t (b ∷ p) e l h k = rw (h, k) refl

pub join-refuses-length : (t p : List ℕ) → 0 < length p → list_all is_uri_byte p ≡ true → path_refusal p ≡ None
    → 3072 ≤ length (joined t p) → join_refusal t p ≡ Some LongUri
unfolding join_refusal
join-refuses-length t [] l h k n = absurd (omega arith)
join-refuses-length t (b ∷ p) l h k n =
    let long : nat_le 3072 (length (joined t (b ∷ p))) ≡ true = grind (arith, nat_tests) in rw (h, k, long) refl

pub join-refuses-nothing : (t p : List ℕ) → 0 < length p → list_all is_uri_byte p ≡ true → path_refusal p ≡ None
    → length (joined t p) < 3072 → join_refusal t p ≡ None
unfolding join_refusal
join-refuses-nothing t [] l h k n = absurd (omega arith)
join-refuses-nothing t (b ∷ p) l h k n =
    let short : nat_le 3072 (length (joined t (b ∷ p))) ≡ false = grind (arith, nat_tests) in rw (h, k, short) refl

-- what a join that rejects nothing has tested
pub join-tested : (t p : List ℕ) → join_refusal t p ≡ None
    → (list_all is_uri_byte p ≡ true) × (names_refusal (segments p) ≡ None)
unfolding join_refusal path_refusal
join-tested t [] h = (refl, ap names_refusal segments-empty)
join-tested t (b ∷ p) h =
    by_cases (list_all is_uri_byte (b ∷ p)) (nat_le 3072 (length (b ∷ p))) (names_refusal (segments (b ∷ p))) h where
      by_cases : (v w : Bool) (o : Option Error)
          → cond (not v) (Some InvalidCharacters)
          (option_or (cond w (Some LongUri) o) (cond (nat_le 3072 (length (joined t (b ∷ p)))) (Some LongUri) None)) ≡
          None
          → (v ≡ true) × (o ≡ None)
      by_cases true true o h = cc
      by_cases true false None h = (refl, refl)
      by_cases true false (Some e) h = cc
      by_cases false w o h = cc

pub cut-joined-any : (t : List ℕ) (m n : ℕ) → IsCut t m n → (p : List ℕ) → join_refusal t p ≡ None
    → IsCut (joined t p) m n
unfolding joined
cut-joined-any t m n c [] h = c
cut-joined-any t m n c (b ∷ p) h = let tested = join-tested t (b ∷ p) h in cut-joined t m n c (b ∷ p) tested.0 tested.1

pub relative-joined-any : (t : List ℕ) (m n : ℕ) → IsCut t m n → (p : List ℕ) → join_refusal t p ≡ None
    → relative (uri_of (joined t p)) (uri_of t) ≡ Some p
relative-joined-any t m n c p h = let tested = join-tested t p h in relative-joined t m n c p tested.0 tested.1

pub join-refuses-nothing-empty : (t p : List ℕ) → p ≡ [] → join_refusal t p ≡ None
unfolding join_refusal
join-refuses-nothing-empty t p e = rw e refl

pub joined-empty : (t p : List ℕ) → p ≡ [] → joined t p ≡ t
unfolding joined
joined-empty t p e = rw e refl

-- ---- the parent

-- where a path is cut after a slash, its segments are cut too
pub segments-closed : (f p : List ℕ) → is_dir f ≡ true → segments (f ++ p) ≡ segments f ++ segments p
segments-closed f p h = ap (λ s. segments (s ++ p)) (sym (with_slash-dir f h)) ∙ segments-joined f p

pub one-piece-slash : (p : List ℕ) → pieces p ≡ p ∷ [] → segments (p ++ 47 ∷ []) ≡ p ∷ []
one-piece-slash p h = segments-before-slash p ∙ h

pub one-piece-open : (p : List ℕ) → 0 < length p → pieces p ≡ p ∷ [] → segments p ≡ p ∷ []
unfolding segments
one-piece-open [] l h = absurd (omega arith)
one-piece-open (b ∷ p) l h = ap names_of h

pub parent_len-slash : (t : List ℕ) (n : ℕ) → n ≤ length t → is_dir (take n t) ≡ true
    → pieces (drop n t) ≡ drop n t ∷ [] → IsParentLen (t ++ 47 ∷ []) n
parent_len-slash t n w f b =
    let front : take n (t ++ 47 ∷ []) ≡ take n t = take-append-le n t (47 ∷ []) w in
    let whole : t ++ 47 ∷ [] ≡ take n t ++ (drop n t ++ 47 ∷ []) = ap (λ s. s ++ 47 ∷ []) (sym (take-append-drop n t)) ∙
    append_assoc (take n t) (drop n t) (47 ∷ []) in
    record {
      within = omega (arith, length-append t (47 ∷ []));
      closed = ap is_dir front ∙ f;
      name = drop n t;
      last = ap segments whole ∙ segments-closed (take n t) (drop n t ++ 47 ∷ []) f ∙ ap (λ s. segments (take n t) ++ s)
          (one-piece-slash (drop n t) b) ∙ ap (λ s. segments s ++ drop n t ∷ []) (sym front);
    }

pub parent_len-open : (t : List ℕ) (n : ℕ) → n ≤ length t → is_dir t ≡ false → is_dir (take n t) ≡ true
    → pieces (drop n t) ≡ drop n t ∷ [] → IsParentLen t n
parent_len-open t n w o f b =
    let some : 0 < length (drop n t) = by_cases (nat_le (length t) n) refl in
    record {
      within = w;
      closed = f;
      name = drop n t;
      last = ap segments (sym (take-append-drop n t)) ∙ segments-closed (take n t) (drop n t) f ∙ ap
          (λ s. segments (take n t) ++ s) (one-piece-open (drop n t) some b);
    } where
      by_cases : (v : Bool) → nat_le (length t) n ≡ v → 0 < length (drop n t)
      by_cases true e = let all : take n t ≡ t = take_all n t (grind (arith, nat_tests)) in let d : is_dir t ≡ true =
          sym (ap is_dir all) ∙ f in cc
      by_cases false e = let l : n < length t = grind (arith, nat_tests) in omega (arith, length-drop n t)

-- a beginning of a list, in two parts
pub take-parts : (p n : ℕ) (t : List ℕ) → p ≤ length t → take (p + n) t ≡ take p t ++ take n (drop p t)
take-parts p n t w =
    ap (λ k. take (k + n) t) (sym (length-take-le p t w)) ∙ ap (take (length (take p t) + n))
    (sym (take-append-drop p t)) ∙ take-append-add (take p t) (drop p t) n

pub closed-at : (t : List ℕ) (n : ℕ) → 0 < n → n ≤ length t → get_or t (n - 1) 0 ≡ 47 → is_dir (take n t) ≡ true
closed-at t n l w e =
    let at : n ≡ n - 1 + 1 = omega arith in
    ap (λ k. is_dir (take k t)) at ∙ ap is_dir (take_more t (n - 1) 0 (omega arith)) ∙ ap
    (λ b. is_dir (take (n - 1) t ++ b ∷ [])) e ∙ is_dir-push-slash (take (n - 1) t)

without_last-append : (us : List (List ℕ)) (u : List ℕ) → without_last (us ++ u ∷ []) ≡ Some us
without_last-append [] u = refl
without_last-append (x ∷ us) u =
    let size : length (us ++ u ∷ []) ≡ length (x ∷ us) = length-append us (u ∷ []) ∙ omega arith in
    ap Some (ap (λ k. take k (x ∷ (us ++ u ∷ []))) size ∙ take-append_seam (x ∷ us) (u ∷ []))

-- the parent as a beginning of the text
pub parent-is : (t : List ℕ) (m p : ℕ) → IsCut t m p → (n : ℕ) → IsParentLen (path_of t) n
    → parent_of t ≡ Some (take (p + n) t)
unfolding parent_of
parent-is t m p c n k =
    let facts = cut-facts t m p c in
    let lt : length t - length (path_of t) ≡ p = omega (arith, ap length facts.path_is, length-drop p t, facts.fits) in
    let front : path_text (segments (take n (path_of t))) true ≡ take n (path_of t) =
    ap (path_text (segments (take n (path_of t)))) (sym k.closed) ∙ path_text-segments (take n (path_of t)) in
    ap (λ names. option_map (λ names'. take (length t - length (path_of t)) t ++ path_text names' true)
    (without_last names)) k.last
    ∙ ap (option_map (λ names'. take (length t - length (path_of t)) t ++ path_text names' true))
    (without_last-append (segments (take n (path_of t))) k.name)
    ∙ ap Some (ap (λ y. take (length t - length (path_of t)) t ++ y) front ∙ ap (λ j. take j t ++ take n (path_of t)) lt
    ∙ ap (λ y. take p t ++ take n y) facts.path_is ∙ sym (take-parts p n t facts.fits))

pub parent-none : (t : List ℕ) → path_of t ≡ [] → parent_of t ≡ None
unfolding parent_of
parent-none t e = ap (λ names. option_map (λ names'. take (length t - length (path_of t)) t ++ path_text names' true)
    (without_last names)) (ap segments e ∙ segments-empty)

pub parent-cut : (t : List ℕ) (m p : ℕ) → IsCut t m p → (n : ℕ) → IsParentLen (path_of t) n → IsCut (take (p + n) t) m p
parent-cut t m p c n k =
    let facts = cut-facts t m p c in
    let h = head-of t m p c in
    let names : names_refusal (segments (take n (path_of t))) ≡ None =
    names_refusal-front (segments (take n (path_of t))) (k.name ∷ [])
    (sym (ap names_refusal k.last) ∙ path-names t m p c h) in
    let y : List ℕ = take n (path_of t) in
    let d : IsCut ((h.head ++ 47 ∷ []) ++ y) m p = cut-changed t m p c h y
    (list-all-take is_uri_byte n (path_of t) facts.path_passes) names in
    let size : length (h.head ++ 47 ∷ []) ≡ p = length-append h.head (47 ∷ []) ∙ h.long in
    let fh : take p t ≡ h.head ++ 47 ∷ [] = ap (take p) h.is ∙ ap (λ j. take j ((h.head ++ 47 ∷ []) ++ path_of t))
    (sym size) ∙ take-append_seam (h.head ++ 47 ∷ []) (path_of t) in
    let e : take (p + n) t ≡ (h.head ++ 47 ∷ []) ++ y = take-parts p n t facts.fits ∙ ap (λ z. take p t ++ take n z)
    (sym facts.path_is) ∙ ap (λ f. f ++ y) fh in
    subst (λ (s : List ℕ). IsCut s m p) (sym e) d

pub parent-split : (t : List ℕ) (m p : ℕ) → IsCut t m p → (h : Head t m p) (n : ℕ)
    → take (p + n) t ≡ (h.head ++ 47 ∷ []) ++ take n (path_of t)
parent-split t m p c h n =
    let facts = cut-facts t m p c in
    let size : length (h.head ++ 47 ∷ []) ≡ p = length-append h.head (47 ∷ []) ∙ h.long in
    let fh : take p t ≡ h.head ++ 47 ∷ [] = ap (take p) h.is ∙ ap (λ j. take j ((h.head ++ 47 ∷ []) ++ path_of t))
    (sym size) ∙ take-append_seam (h.head ++ 47 ∷ []) (path_of t) in
    take-parts p n t facts.fits ∙ ap (λ z. take p t ++ take n z) (sym facts.path_is) ∙ ap (λ f. f ++ take n (path_of t))
    fh

-- what the parent stands for
pub parent-meaning : (t : List ℕ) (m p : ℕ) → IsCut t m p → (n : ℕ) → IsParentLen (path_of t) n
    → Some (uri_of (take (p + n) t)) ≡ parent_uri (uri_of t)
unfolding parent_uri uri_of
parent-meaning t m p c n k =
    let h = head-of t m p c in
    let y : List ℕ = take n (path_of t) in
    let e = parent-split t m p c h n in
    let d : IsCut ((h.head ++ 47 ∷ []) ++ y) m p = subst (λ (s : List ℕ). IsCut s m p) e (parent-cut t m p c n k) in
    let made : List (List ℕ)
    → RsyncUri = λ names. record {
      authority = lowercase (authority_of t);
      module_name = module_name_of t;
      segments =
          names;
      is_dir = true;
    } in
    ap Some (ap uri_of e ∙ uri_of-changed t m p c h y d ∙ rw k.closed refl)
    ∙ sym (ap (option_map made) (ap without_last k.last ∙ without_last-append (segments y) k.name))

pub cut-dir : (t : List ℕ) (m n : ℕ) → IsCut t m n → IsCut (with_slash t) m n
cut-dir t m n c = subst (λ (s : List ℕ). IsCut s m n) (append-nil (with_slash t))
    (cut-joined t m n c [] refl (ap names_refusal segments-empty))
