-- The text of an https URI, cut before its path.
use Rattle.std.proofs.Common.{◌≡◌, eqb, ℕ, zero, suc, ◌+◌, ◌-◌, ◌<◌, ◌≤◌, Bool, true, false, cond, not, ◌&&◌, ◌||◌}
use Rattle.std.proofs.Common.{nat_lt, nat_le, List, [], ◌∷◌, ◌++◌, length, take, drop, get_or, codes, Some, None}
use Rattle.std.proofs.Common.{bytes_eq, sym, refl, ap, ◌∙◌, subst, ◌⊎◌, inl, inr, arith}
use Rattle.std.specs.List.{list_all, list_any, before_first, position_or_len, suffix_len}
use Rattle.std.specs.Option.{option_map}
use Rattle.std.specs.Char.{to_ascii_lowercase}
use Rattle.std.specs.Cmp.{first_so, second_so, both_ways}
use Rattle.std.proofs.lemmas.List.{take-append-drop, append_assoc, append-nil, length-append, length-drop}
use Rattle.std.proofs.lemmas.List.{length-take-le, map-append, drop-drop, drop_more, drop_all, take_all, take-append-le}
use Rattle.std.proofs.lemmas.List.Folds.{list_all-append, length-prefix_len}
use Rattle.std.proofs.lemmas.List.Sums.{passes_at_first, prefix_len-le-length}
use Rattle.std.proofs.lemmas.Bool.Decides.{nat_tests}
use Rattle.std.proofs.lemmas.Slice.Eq.{bytes_eq-Decides}
use Rattle.std.proofs.Math.Seq.{take-append_seam, drop-append_seam}
use borrow.Author.Tests.{eqb-true}
use Rattle.rpki_text.specs.declared.uri.error.Error.TheVariants.{InvalidCharacters, BadUri, BadScheme}
use Rattle.rpki_text.specs.UriText.{lowercase, is_uri_byte, same_text}
use Rattle.rpki_text.specs.Segments.{is_slash, is_dir, with_slash}
use Rattle.rpki_text.specs.HttpsText.{https_authority, https_path, https_refusal, IsHttpsCut, HttpsUri, https_uri_of}
use Rattle.rpki_text.specs.HttpsText.{IsHttpsUri, SpellsHttps, ends_in_slash, closed_path, https_joined}
use Rattle.rpki_text.specs.HttpsText.{https_joined_uri, https_join_refusal, https_into_dir, without_slash, up_to_slash}
use Rattle.rpki_text.specs.HttpsText.{path_above, https_parent_of, https_parent_uri, same_https, eq_https_bytes}
use Rattle.std.specs.List.{slice_get}
use Rattle.std.proofs.lemmas.Option.{slice_get_within}
use Rattle.rpki_text.proofs.SegmentLaws.{is_dir-last-some, is_dir-push-slash, is_dir-push-other}
use Rattle.rpki_text.proofs.CutLaws.{list-all-take, list-all-drop}
use Rattle.rpki_text.proofs.JoinLaws.{take-parts}
use Rattle.rpki_text.proofs.PartLaws.{lowercase-lowercase, slash-lowercase, before-first-no_slash, before-slash}
use Rattle.rpki_text.proofs.TextLaws.{length-lowercase, SameText, same_text-parts}

-- ---- the error, test by test

pub https-refuses-characters : (t : List ℕ) → list_all is_uri_byte t ≡ false → https_refusal t ≡ Some InvalidCharacters
unfolding https_refusal
https-refuses-characters t h = rw h refl

pub https-refuses-scheme : (t : List ℕ) → list_all is_uri_byte t ≡ true
    → bytes_eq (lowercase (take 8 t)) (codes "https://") ≡ false → https_refusal t ≡ Some BadScheme
unfolding https_refusal
https-refuses-scheme t h k = rw (h, k) refl

pub authority-long : (t : List ℕ) → length (https_authority t) ≡ position_or_len is_slash (drop 8 t)
unfolding https_authority
authority-long t = length-prefix_len (λ b. not (is_slash b)) (drop 8 t)

pub https-refuses-authority : (t : List ℕ) → list_all is_uri_byte t ≡ true
    → bytes_eq (lowercase (take 8 t)) (codes "https://") ≡ true → 256 ≤ position_or_len is_slash (drop 8 t)
    → https_refusal t ≡ Some BadUri
unfolding https_refusal
https-refuses-authority t h k l =
    let long : nat_le 256 (length (https_authority t)) ≡ true = let e = authority-long t in grind (arith, nat_tests) in
    rw (h, k, long) refl

-- what a text that is not rejected has
pub record HttpsForm (t : List ℕ) : Type 0 where
  pub characters : list_all is_uri_byte t ≡ true
  pub scheme : lowercase (take 8 t) ≡ codes "https://"
  pub short : length (https_authority t) < 256

pub https-refuses-nothing : (t : List ℕ) → HttpsForm t → https_refusal t ≡ None
unfolding https_refusal
https-refuses-nothing t f =
    let short : nat_le 256 (length (https_authority t)) ≡ false = let l = f.short in grind (arith, nat_tests) in
    rw (f.characters, (bytes_eq-Decides (lowercase (take 8 t)) (codes "https://")).1 f.scheme, short) refl

pub https-form : (t : List ℕ) → https_refusal t ≡ None → HttpsForm t
unfolding https_refusal
https-form t h = by_cases (list_all is_uri_byte t) refl (bytes_eq (lowercase (take 8 t)) (codes "https://")) refl
    (nat_le 256 (length (https_authority t))) refl h where
      by_cases : (a : Bool) → list_all is_uri_byte t ≡ a → (b : Bool)
          → bytes_eq (lowercase (take 8 t)) (codes "https://") ≡ b → (d : Bool)
          → nat_le 256 (length (https_authority t)) ≡ d
          → cond (not a) (Some InvalidCharacters) (cond (not b) (Some BadScheme) (cond d (Some BadUri) None)) ≡ None
          → HttpsForm t
      by_cases false ea b eb d ed k = cc
      by_cases true ea false eb d ed k = cc
      by_cases true ea true eb true ed k = cc
      by_cases true ea true eb false ed k =
          record { characters = ea; scheme = (bytes_eq-Decides _ _).0 eb; short = grind (arith, nat_tests) }

-- ---- the two halves

-- nothing, or a list that begins with a slash
abbrev pub AtSlash : List ℕ → Type 0
AtSlash y = (y ≡ []) ⊎ ((r : List ℕ) × (y ≡ 47 ∷ r))

from-slash : (s : List ℕ) (n : ℕ) → n ≡ position_or_len is_slash s → (v : Bool) → nat_lt n (length s) ≡ v
    → AtSlash (drop n s)
from-slash s n e true h =
    let l : n < length s = grind (arith, nat_tests) in
    let at : position_or_len is_slash s < length s = omega (arith, e) in
    let byte : get_or s n 0 ≡ 47 = ap (λ k. get_or s k 0) e ∙ eqb-true _ 47 (passes_at_first is_slash s 0 at) in
    inr (drop (n + 1) s, drop_more s n 0 l ∙ ap (λ b. b ∷ drop (n + 1) s) byte)
from-slash s n e false h = let l : length s ≤ n = grind (arith, nat_tests) in inl (drop_all n s l)

pub path-is : (t : List ℕ) → https_path t ≡ drop (position_or_len is_slash (drop 8 t)) (drop 8 t)
unfolding https_path
path-is t = ap (λ n. drop (8 + n) t) (authority-long t) ∙ sym (drop-drop (position_or_len is_slash (drop 8 t)) 8 t)

pub path-at-slash : (t : List ℕ) → AtSlash (https_path t)
path-at-slash t = let r = from-slash (drop 8 t) (position_or_len is_slash (drop 8 t)) refl _ refl in subst
    (λ (y : List ℕ). AtSlash y) (sym (path-is t)) r

pub record HttpsHalves (t : List ℕ) (n : ℕ) : Type 0 where
  pub form : HttpsForm t
  pub eight : length (take 8 t) ≡ 8
  pub front : take n t ≡ take 8 t ++ https_authority t
  pub long : length (take n t) ≡ n
  pub fits : n ≤ length t
  pub path : https_path t ≡ drop n t
  pub free : list_any is_slash (https_authority t) ≡ false

pub https-halves : (t : List ℕ) (n : ℕ) → IsHttpsCut t n → HttpsHalves t n
unfolding https_authority https_path
https-halves t n c =
    let f = https-form t c.passes in
    let eight : length (take 8 t) ≡ 8 = sym (length-lowercase (take 8 t)) ∙ ap length f.scheme in
    let within : position_or_len is_slash (drop 8 t) ≤ length (drop 8 t) = prefix_len-le-length (λ b. not (is_slash b))
    (drop 8 t) in
    let size : length (https_authority t) ≡ position_or_len is_slash (drop 8 t) = authority-long t in
    let l8 : length (drop 8 t) ≡ length t - 8 = length-drop 8 t in
    let some : 8 ≤ length t = omega (
      arith,
      eight,
      ap length (take-append-drop 8 t),
      length-append (take 8 t)
          (drop 8 t),
    ) in
    let e : n ≡ 8 + position_or_len is_slash (drop 8 t) = c.path_starts ∙ ap (λ k. 8 + k) size in
    let fits : n ≤ length t = omega (arith, within, l8, some, e) in
    record {
      form = f;
      eight = eight;
      front = ap (λ k. take k t) e ∙ take-parts 8 (position_or_len is_slash (drop 8 t)) t some;
      long = length-take-le n t fits;
      fits = fits;
      path = ap (λ k. drop k t) (sym c.path_starts);
      free = before-first-no_slash (drop 8 t);
    }

-- ---- a text with another path

position-all : (a : List ℕ) → list_any is_slash a ≡ false → position_or_len is_slash a ≡ length a
position-all [] h = refl
position-all (x ∷ a) h = by_cases (is_slash x) h (λ k. position-all a k) where
  by_cases : (v : Bool) → (v || list_any is_slash a) ≡ false
      → (list_any is_slash a ≡ false → position_or_len is_slash a ≡ length a)
      → cond (not v) (1 + position_or_len is_slash a) 0 ≡ length (x ∷ a)
  by_cases true e ih = cc
  by_cases false e ih = let at : position_or_len is_slash a ≡ length a = ih e in omega arith

before-all : (a : List ℕ) → list_any is_slash a ≡ false → before_first is_slash a ≡ a
before-all a h = ap (λ n. take n a) (position-all a h) ∙ take_all (length a) a (omega arith)

before-end : (a y : List ℕ) → AtSlash y → list_any is_slash a ≡ false → before_first is_slash (a ++ y) ≡ a
before-end a y (inl e) h =
    ap (λ s. before_first is_slash (a ++ s)) e ∙ ap (before_first is_slash) (append-nil a) ∙ before-all a h
before-end a y (inr (r, e)) h = ap (λ s. before_first is_slash (a ++ s)) e ∙ before-slash a r h

and-true : (x y : Bool) → x ≡ true → y ≡ true → (x && y) ≡ true
and-true true y h k = k
and-true false y h k = h

-- the text with another path, cut at the same place
pub record HttpsChanged (t y : List ℕ) (n : ℕ) : Type 0 where
  pub cut : IsHttpsCut (take n t ++ y) n
  pub authority : https_authority (take n t ++ y) ≡ https_authority t
  pub path : https_path (take n t ++ y) ≡ y

pub https-changed : (t : List ℕ) (n : ℕ) → IsHttpsCut t n → (y : List ℕ) → AtSlash y → list_all is_uri_byte y ≡ true
    → HttpsChanged t y n
unfolding https_authority https_path
https-changed t n c y at good =
    let h = https-halves t n c in
    let a : List ℕ = https_authority t in
    let text : take n t ++ y ≡ take 8 t ++ (a ++ y) = ap (λ f. f ++ y) h.front ∙ append_assoc (take 8 t) a y in
    let rest : drop 8 (take n t ++ y) ≡ a ++ y = ap (drop 8) text ∙ ap (λ k. drop k (take 8 t ++ (a ++ y)))
    (sym h.eight) ∙ drop-append_seam (take 8 t) (a ++ y) in
    let front : take 8 (take n t ++ y) ≡ take 8 t = ap (take 8) text ∙ ap (λ k. take k (take 8 t ++ (a ++ y)))
    (sym h.eight) ∙ take-append_seam (take 8 t) (a ++ y) in
    let authority : https_authority (take n t ++ y) ≡ a = ap (before_first is_slash) rest ∙ before-end a y at h.free in
    let start : n ≡ 8 + length (https_authority (take n t ++ y)) = c.path_starts ∙ ap (λ x. 8 + length x)
    (sym authority) in
    record {
      cut = record {
        passes = https-refuses-nothing (take n t ++ y) (record {
          characters = list_all-append is_uri_byte (take n t) y ∙ and-true _ _
              (list-all-take is_uri_byte n t h.form.characters) good;
          scheme = ap lowercase front ∙ h.form.scheme;
          short = omega (arith, ap length authority, h.form.short);
        });
        path_starts = start;
      };
      authority = authority;
      path = ap (λ k. drop k (take n t ++ y)) (sym start ∙ sym h.long) ∙ drop-append_seam (take n t) y;
    }

-- what it stands for
pub changed-meaning : (t : List ℕ) (n : ℕ) (y : List ℕ) → HttpsChanged t y n
    → https_uri_of (take n t ++ y) ≡ record { authority = lowercase (https_authority t); path = y }
unfolding https_uri_of
changed-meaning t n y h = rw (h.authority, h.path) refl

-- the text by its halves
pub https-whole : (t : List ℕ) (n : ℕ) → IsHttpsCut t n → t ≡ take n t ++ https_path t
https-whole t n c = let h = https-halves t n c in sym (take-append-drop n t) ∙ ap (λ y. take n t ++ y) (sym h.path)

pub https-parts-pass : (t : List ℕ) (n : ℕ) → IsHttpsCut t n
    → (list_all is_uri_byte (https_authority t) ≡ true) × (list_all is_uri_byte (https_path t) ≡ true)
unfolding https_authority
https-parts-pass t n c =
    let h = https-halves t n c in (
      list-all-take is_uri_byte _ (drop 8 t) (list-all-drop is_uri_byte 8 t h.form.characters),
      ap (list_all is_uri_byte)
          h.path ∙ list-all-drop is_uri_byte n t h.form.characters,
    )

-- ---- join, parent, directory

at-slash-append : (x y : List ℕ) → AtSlash x → AtSlash y → AtSlash (x ++ y)
at-slash-append x y (inl e) b = subst (λ (s : List ℕ). AtSlash (s ++ y)) (sym e) b
at-slash-append x y (inr (r, e)) b = inr (r ++ y, ap (λ s. s ++ y) e)

at-slash-closed : (x p : List ℕ) → AtSlash x → AtSlash (closed_path x ++ p)
at-slash-closed x p (inl e) = subst (λ (s : List ℕ). AtSlash (closed_path s ++ p)) (sym e) (inr (p, refl))
at-slash-closed x p (inr (r, e)) = by_cases (ends_in_slash x) where
  by_cases : (v : Bool) → AtSlash (cond v x (x ++ 47 ∷ []) ++ p)
  by_cases true = inr (r ++ p, ap (λ s. s ++ p) e)
  by_cases false = inr ((r ++ 47 ∷ []) ++ p, ap (λ s. (s ++ 47 ∷ []) ++ p) e)

take-none : (k : ℕ) (y : List ℕ) → y ≡ [] → take k y ≡ []
take-none zero y e = refl
take-none (suc k) [] e = refl
take-none (suc k) (b ∷ y) e = cc

at-slash-take : (k : ℕ) (y : List ℕ) → AtSlash y → AtSlash (take k y)
at-slash-take k y (inl e) = inl (take-none k y e)
at-slash-take k y (inr (r, e)) = by_cases k where
  by_cases : (k : ℕ) → AtSlash (take k y)
  by_cases zero = inl refl
  by_cases (suc k) = inr (take k r, ap (take (suc k)) e)

closed-passes : (x : List ℕ) → list_all is_uri_byte x ≡ true → list_all is_uri_byte (closed_path x) ≡ true
unfolding is_uri_byte
closed-passes x h = by_cases (ends_in_slash x) where
  by_cases : (v : Bool) → list_all is_uri_byte (cond v x (x ++ 47 ∷ [])) ≡ true
  by_cases true = h
  by_cases false = list_all-append is_uri_byte x (47 ∷ []) ∙ and-true _ _ h refl

-- a text with a slash last, by its halves
closed-text : (f x : List ℕ) (v : Bool) → cond v (f ++ x) ((f ++ x) ++ codes "/") ≡ f ++ cond v x (x ++ codes "/")
closed-text f x true = refl
closed-text f x false = append_assoc f x (codes "/")

pub https_joined-is : (t : List ℕ) (n : ℕ) → IsHttpsCut t n → (p : List ℕ)
    → https_joined t p ≡ take n t ++ (closed_path (https_path t) ++ p)
unfolding https_joined
https_joined-is t n c p =
    ap (λ s. cond (ends_in_slash (https_path t)) s (s ++ codes "/") ++ p) (https-whole t n c)
    ∙ ap (λ s. s ++ p) (closed-text (take n t) (https_path t) (ends_in_slash (https_path t))) ∙ append_assoc (take n t)
    (closed_path (https_path t)) p

pub https_joined-changed : (t : List ℕ) (n : ℕ) → IsHttpsCut t n → (p : List ℕ) → list_all is_uri_byte p ≡ true
    → HttpsChanged t (closed_path (https_path t) ++ p) n
https_joined-changed t n c p good =
    https-changed t n c (closed_path (https_path t) ++ p) (at-slash-closed (https_path t) p (path-at-slash t))
    (list_all-append is_uri_byte (closed_path (https_path t)) p ∙ and-true _ _
    (closed-passes (https_path t) (https-parts-pass t n c).1) good)

pub https_joined-cut : (t : List ℕ) (n : ℕ) → IsHttpsCut t n → (p : List ℕ) → list_all is_uri_byte p ≡ true
    → IsHttpsCut (https_joined t p) n
https_joined-cut t n c p good =
    subst (λ (s : List ℕ). IsHttpsCut s n) (sym (https_joined-is t n c p)) (https_joined-changed t n c p good).cut

pub https_joined-meaning : (t : List ℕ) (n : ℕ) → IsHttpsCut t n → (p : List ℕ) → list_all is_uri_byte p ≡ true
    → https_uri_of (https_joined t p) ≡ https_joined_uri (https_uri_of t) p
unfolding https_joined_uri https_uri_of
https_joined-meaning t n c p good =
    ap https_uri_of (https_joined-is t n c p) ∙ changed-meaning t n _ (https_joined-changed t n c p good)

pub https_joined-begins : (t p : List ℕ) → take (length t) (https_joined t p) ≡ t
unfolding https_joined
https_joined-begins t p = by_cases (ends_in_slash (https_path t)) where
  by_cases : (v : Bool) → take (length t) (cond v t (t ++ codes "/") ++ p) ≡ t
  by_cases true = take-append_seam t p
  by_cases false = ap (take (length t)) (append_assoc t (codes "/") p) ∙ take-append_seam t (codes "/" ++ p)

pub https-join-ok : (p : List ℕ) → list_all is_uri_byte p ≡ true → https_join_refusal p ≡ None
unfolding https_join_refusal
https-join-ok p h = rw h refl

pub https-join-refuses : (p : List ℕ) → list_all is_uri_byte p ≡ false → https_join_refusal p ≡ Some InvalidCharacters
unfolding https_join_refusal
https-join-refuses p h = rw h refl

-- directories

pub https_into_dir-dir : (t : List ℕ) → is_dir (https_path t) ≡ true → https_into_dir t ≡ t
unfolding https_into_dir
https_into_dir-dir t h = rw h refl

pub https_into_dir-open : (t : List ℕ) → is_dir (https_path t) ≡ false → https_into_dir t ≡ t ++ codes "/"
unfolding https_into_dir
https_into_dir-open t h = rw h refl

pub into_dir-kept : (t : List ℕ) → is_dir (https_path t) ≡ true
    → https_uri_of t ≡ record (https_uri_of t) { path = with_slash (https_path t) }
unfolding https_uri_of with_slash
into_dir-kept t h = rw h refl

slash-passes : (x : List ℕ) → list_all is_uri_byte x ≡ true → list_all is_uri_byte (x ++ codes "/") ≡ true
unfolding is_uri_byte
slash-passes x h = list_all-append is_uri_byte x (codes "/") ∙ and-true _ _ h refl

pub into_dir-changed : (t : List ℕ) (n : ℕ) → IsHttpsCut t n → HttpsChanged t (https_path t ++ codes "/") n
into_dir-changed t n c =
    https-changed t n c (https_path t ++ codes "/")
    (at-slash-append (https_path t) (codes "/") (path-at-slash t) (inr ([], refl)))
    (slash-passes (https_path t) (https-parts-pass t n c).1)

pub into_dir-is : (t : List ℕ) (n : ℕ) → IsHttpsCut t n → t ++ codes "/" ≡ take n t ++ (https_path t ++ codes "/")
into_dir-is t n c = ap (λ s. s ++ codes "/") (https-whole t n c) ∙ append_assoc (take n t) (https_path t) (codes "/")

pub into_dir-cut : (t : List ℕ) (n : ℕ) → IsHttpsCut t n → IsHttpsCut (t ++ codes "/") n
into_dir-cut t n c = subst (λ (s : List ℕ). IsHttpsCut s n) (sym (into_dir-is t n c)) (into_dir-changed t n c).cut

-- the text as a directory is cut at the same place
pub https_dir-cut : (t : List ℕ) (n : ℕ) → IsHttpsCut t n → IsHttpsCut (https_into_dir t) n
https_dir-cut t n c = by_cases (is_dir (https_path t)) refl where
  by_cases : (b : Bool) → is_dir (https_path t) ≡ b → IsHttpsCut (https_into_dir t) n
  by_cases true h = subst (λ (x : List ℕ). IsHttpsCut x n) (sym (https_into_dir-dir t h)) c
  by_cases false h = subst (λ (x : List ℕ). IsHttpsCut x n) (sym (https_into_dir-open t h)) (into_dir-cut t n c)

pub https_into_dir-meaning : (t : List ℕ) (n : ℕ) → IsHttpsCut t n → is_dir (https_path t) ≡ false
    → https_uri_of (t ++ codes "/") ≡ record (https_uri_of t) { path = with_slash (https_path t) }
unfolding https_uri_of with_slash
https_into_dir-meaning t n c h =
    ap https_uri_of (into_dir-is t n c) ∙ changed-meaning t n _ (into_dir-changed t n c) ∙ rw h refl

-- parents

pub parent-changed : (t : List ℕ) (n : ℕ) → IsHttpsCut t n → (k : ℕ) → HttpsChanged t (take k (https_path t)) n
parent-changed t n c k = https-changed t n c (take k (https_path t)) (at-slash-take k (https_path t) (path-at-slash t))
    (list-all-take is_uri_byte k (https_path t) (https-parts-pass t n c).1)

pub parent-is : (t : List ℕ) (n : ℕ) → IsHttpsCut t n → (k : ℕ) → take (n + k) t ≡ take n t ++ take k (https_path t)
parent-is t n c k = let h = https-halves t n c in take-parts n k t h.fits ∙ ap (λ y. take n t ++ take k y) (sym h.path)

pub https-parent-text : (t : List ℕ) (n : ℕ) → IsHttpsCut t n → (k : ℕ)
    → path_above (https_path t) ≡ Some (take k (https_path t)) → https_parent_of t ≡ Some (take (n + k) t)
unfolding https_parent_of
https-parent-text t n c k h =
    ap (option_map (λ path. take (8 + length (https_authority t)) t ++ path)) h
    ∙ ap Some (ap (λ j. take j t ++ take k (https_path t)) (sym c.path_starts) ∙ sym (parent-is t n c k))

pub https-parent-none : (t : List ℕ) → path_above (https_path t) ≡ None → https_parent_of t ≡ None
unfolding https_parent_of
https-parent-none t h = ap (option_map (λ path. take (8 + length (https_authority t)) t ++ path)) h

pub https-parent-meaning : (t : List ℕ) (n : ℕ) → IsHttpsCut t n → (k : ℕ)
    → path_above (https_path t) ≡ Some (take k (https_path t))
    → Some (https_uri_of (take (n + k) t)) ≡ https_parent_uri (https_uri_of t)
unfolding https_parent_uri https_uri_of
https-parent-meaning t n c k h =
    let made : List ℕ → HttpsUri = λ path. record { authority = lowercase (https_authority t); path = path } in
    ap Some (ap https_uri_of (parent-is t n c k) ∙ changed-meaning t n _ (parent-changed t n c k)) ∙ sym
    (ap (option_map made) h)

pub https-parent-cut : (t : List ℕ) (n : ℕ) → IsHttpsCut t n → (k : ℕ) → IsHttpsCut (take (n + k) t) n
https-parent-cut t n c k = subst (λ (s : List ℕ). IsHttpsCut s n) (sym (parent-is t n c k)) (parent-changed t n c k).cut

-- ---- what every text stands for

pub https-spelled : (t : List ℕ) (n : ℕ) → IsHttpsCut t n → SpellsHttps t (https_uri_of t)
unfolding https_uri_of
https-spelled t n c =
    let h = https-halves t n c in
    record {
      scheme = take 8 t;
      authority = https_authority t;
      any_case = (h.form.scheme, refl);
      is = https-whole t n c
          ∙ ap (λ f. f ++ https_path t) h.front;
    }

pub https-uri-parts : (t : List ℕ) (n : ℕ) → IsHttpsCut t n → IsHttpsUri (https_uri_of t)
unfolding https_uri_of
https-uri-parts t n c =
    let h = https-halves t n c in
    record {
      lower = lowercase-lowercase (https_authority t);
      one_part = slash-lowercase (https_authority t) ∙ h.free;
      path = nothing_before (https_path t) (path-at-slash t);
    } where
      nothing_before : (y : List ℕ) → AtSlash y → before_first is_slash y ≡ []
      nothing_before y (inl e) = ap (before_first is_slash) e
      nothing_before y (inr (r, e)) = ap (before_first is_slash) e

-- ---- a path by its last octet

pub ends_in_slash-last : (t : List ℕ) (b : ℕ) → Some b ≡ slice_get t (length t - 1) → ends_in_slash t ≡ eqb b 47
ends_in_slash-last t b h =
    let within : length t - 1 < length t = slice_get_within t (length t - 1) b (sym h) in
    let some : nat_lt 0 (length t) ≡ true = grind (arith, nat_tests) in
    rw some (is_dir-last-some t b h)

pub without_slash-stripped : (t front : List ℕ) → t ≡ front ++ 47 ∷ [] → front ≡ without_slash t
without_slash-stripped t front e =
    let long : length (front ++ 47 ∷ []) ≡ length front + 1 = length-append front (47 ∷ []) in
    let ends : ends_in_slash (front ++ 47 ∷ []) ≡ true = and-true (nat_lt 0 (length (front ++ 47 ∷ []))) _
    (grind (arith, nat_tests)) (is_dir-push-slash front) in
    let cut : take (length (front ++ 47 ∷ []) - 1) (front ++ 47 ∷ []) ≡ front = ap (λ k. take k (front ++ 47 ∷ []))
    (omega arith) ∙ take-append_seam front (47 ∷ []) in
    sym (ap without_slash e ∙ ap (λ v. cond v (take (length (front ++ 47 ∷ []) - 1) (front ++ 47 ∷ []))
    (front ++ 47 ∷ [])) ends ∙ cut)

and-false : (x y : Bool) → y ≡ false → (x && y) ≡ false
and-false true y h = h
and-false false y h = refl

pub without_slash-kept : (t front : List ℕ) (b : ℕ) → t ≡ front ++ b ∷ [] → is_slash b ≡ false → t ≡ without_slash t
without_slash-kept t front b e h =
    let ends : ends_in_slash t ≡ false = and-false (nat_lt 0 (length t)) _ (ap is_dir e ∙ is_dir-push-other front b h)
    in
    sym (ap (λ v. cond v (take (length t - 1) t) t) ends)

pub path_above-none : (path front : List ℕ) → front ≡ without_slash path → front ≡ [] → path_above path ≡ None
unfolding path_above
path_above-none path front e n = ap (λ f. cond (nat_lt 0 (length f)) (Some (up_to_slash f)) None) (sym e ∙ n)

take-within : (k n : ℕ) (path : List ℕ) → k ≤ length (take n path) → take k (take n path) ≡ take k path
take-within k n path l = sym (take-append-le k (take n path) (drop n path) l) ∙ ap (take k) (take-append-drop n path)

without_slash-take : (path : List ℕ) (k : ℕ) → k ≤ length (without_slash path)
    → take k (without_slash path) ≡ take k path
without_slash-take path k l = by_cases (ends_in_slash path) l where
  by_cases : (v : Bool) → k ≤ length (cond v (take (length path - 1) path) path)
      → take k (cond v (take (length path - 1) path) path) ≡ take k path
  by_cases true w = take-within k (length path - 1) path w
  by_cases false w = refl

pub path_above-some : (path front : List ℕ) (k : ℕ) → front ≡ without_slash path → 0 < length front
    → k ≡ length front - suffix_len (λ b. not (is_slash b)) front → path_above path ≡ Some (take k path)
unfolding path_above
path_above-some path front k e l h =
    let some : nat_lt 0 (length front) ≡ true = grind (arith, nat_tests) in
    let within : k ≤ length (without_slash path) = omega (arith, h, ap length e) in
    ap (λ f. cond (nat_lt 0 (length f)) (Some (up_to_slash f)) None) (sym e) ∙ ap
    (λ v. cond v (Some (up_to_slash front)) None) some
    ∙ ap Some (ap (λ n. take n front) (sym h) ∙ ap (take k) e ∙ without_slash-take path k within)

pub https_joined-flag : (t p : List ℕ)
    → cond (not (ends_in_slash (https_path t))) (t ++ 47 ∷ []) t ++ p ≡ https_joined t p
unfolding https_joined
https_joined-flag t p = by_cases (ends_in_slash (https_path t)) where
  by_cases : (v : Bool) → cond (not v) (t ++ 47 ∷ []) t ++ p ≡ cond v t (t ++ codes "/") ++ p
  by_cases true = refl
  by_cases false = refl

-- ---- equality with octets

pub https-at-path : (t : List ℕ) (n : ℕ) → IsHttpsCut t n → (other : List ℕ)
    → same_text n t other ≡ eq_https_bytes t other
unfolding eq_https_bytes
https-at-path t n c other = ap (λ k. same_text k t other) c.path_starts

-- a text that is put together, read again
pub record HttpsRead (text authority path : List ℕ) : Type 0 where
  pub authority_is : https_authority text ≡ authority
  pub path_is : https_path text ≡ path

pub https-read : (s a y : List ℕ) → length s ≡ 8 → list_any is_slash a ≡ false → AtSlash y
    → HttpsRead ((s ++ a) ++ y) a y
unfolding https_authority https_path
https-read s a y l free at =
    let rest : drop 8 ((s ++ a) ++ y) ≡ a ++ y = ap (drop 8) (append_assoc s a y) ∙ ap (λ k. drop k (s ++ (a ++ y)))
    (sym l) ∙ drop-append_seam s (a ++ y) in
    let authority : https_authority ((s ++ a) ++ y) ≡ a = ap (before_first is_slash) rest ∙ before-end a y at free in
    let start : 8 + length (https_authority ((s ++ a) ++ y)) ≡ length (s ++ a) = omega
    (arith, ap length authority, l, length-append s a) in
    record { authority_is = authority; path_is = ap (λ k. drop k ((s ++ a) ++ y)) start ∙ drop-append_seam (s ++ a) y }

front-lower : (t : List ℕ) (n : ℕ) → IsHttpsCut t n
    → lowercase (take n t) ≡ codes "https://" ++ lowercase (https_authority t)
front-lower t n c =
    let h = https-halves t n c in
    ap lowercase h.front ∙ map-append to_ascii_lowercase (take 8 t) (https_authority t) ∙ ap
    (λ s. s ++ lowercase (https_authority t)) h.form.scheme

https-from-front : (t other : List ℕ) (n : ℕ) → IsHttpsCut t n → SameText n t other
    → same_https (https_uri_of t) (https_uri_of other) ≡ true
unfolding https_uri_of
https-from-front t other n c s =
    let h = https-halves t n c in
    let g : List ℕ = take n other in
    let low : lowercase g ≡ codes "https://" ++ lowercase (https_authority t) = sym s.front ∙ front-lower t n c in
    let size : length g ≡ 8 + length (https_authority t) = sym (length-lowercase g) ∙ ap length low ∙ omega
    (arith, length-append (codes "https://") (lowercase (https_authority t)), length-lowercase (https_authority t)) in
    let eight : length (take 8 g) ≡ 8 = length-take-le 8 g (omega (arith, size)) in
    let both : g ≡ take 8 g ++ drop 8 g = sym (take-append-drop 8 g) in
    let cut : lowercase (take 8 g) ++ lowercase (drop 8 g) ≡ codes "https://" ++ lowercase (https_authority t) = sym
    (map-append to_ascii_lowercase (take 8 g) (drop 8 g)) ∙ ap lowercase (sym both) ∙ low in
    let l8 : length (lowercase (take 8 g)) ≡ 8 = length-lowercase (take 8 g) ∙ eight in
    let tail : lowercase (drop 8 g) ≡ lowercase (https_authority t) =
    sym (ap (λ k. drop k (lowercase (take 8 g) ++ lowercase (drop 8 g))) (sym l8) ∙ drop-append_seam
    (lowercase (take 8 g)) (lowercase (drop 8 g))) ∙ ap (drop 8) cut in
    let free : list_any is_slash (drop 8 g) ≡ false = sym (slash-lowercase (drop 8 g)) ∙ ap (list_any is_slash) tail ∙
    slash-lowercase (https_authority t) ∙ h.free in
    let whole : other ≡ (take 8 g ++ drop 8 g) ++ https_path t = sym (take-append-drop n other) ∙ ap (λ x. g ++ x)
    (sym s.back ∙ sym h.path) ∙ ap (λ x. x ++ https_path t) both in
    let read = https-read (take 8 g) (drop 8 g) (https_path t) eight free (path-at-slash t) in
    let a : https_authority other ≡ drop 8 g = ap https_authority whole ∙ read.authority_is in
    let p : https_path other ≡ https_path t = ap https_path whole ∙ read.path_is in
    and-true _ _ ((bytes_eq-Decides _ _).1 (sym tail ∙ sym (ap lowercase a))) ((bytes_eq-Decides _ _).1 (sym p))

https-to-front : (t other : List ℕ) (n m : ℕ) → IsHttpsCut t n → IsHttpsCut other m
    → same_https (https_uri_of t) (https_uri_of other) ≡ true → same_text n t other ≡ true
unfolding https_uri_of same_text
https-to-front t other n m c d h =
    let ht = https-halves t n c in
    let ho = https-halves other m d in
    let a : lowercase (https_authority t) ≡ lowercase (https_authority other) = (bytes_eq-Decides _ _).0
    (first_so _ _ h) in
    let p : https_path t ≡ https_path other = (bytes_eq-Decides _ _).0
    (second_so (bytes_eq (lowercase (https_authority t)) (lowercase (https_authority other))) _ h) in
    let size : length (https_authority t) ≡ length (https_authority other) = sym (length-lowercase (https_authority t))
    ∙ ap length a ∙ length-lowercase (https_authority other) in
    let start : n ≡ m = omega (arith, c.path_starts, d.path_starts, size) in
    let front : lowercase (take n t) ≡ lowercase (take n other) = front-lower t n c ∙ ap (λ x. codes "https://" ++ x) a
    ∙ sym (front-lower other m d) ∙ ap (λ k. lowercase (take k other)) (sym start) in
    let back : drop n t ≡ drop n other = sym ht.path ∙ p ∙ ho.path ∙ ap (λ k. drop k other) (sym start) in
    and-true _ _ ((bytes_eq-Decides _ _).1 front) ((bytes_eq-Decides _ _).1 back)

pub eq_https_bytes-uri : (t other : List ℕ) (n : ℕ) → IsHttpsCut t n → https_refusal other ≡ None
    → same_text n t other ≡ same_https (https_uri_of t) (https_uri_of other)
eq_https_bytes-uri t other n c h =
    both_ways _ _ (λ k. https-from-front t other n c (same_text-parts n t other k))
    (λ k. https-to-front t other n _ c (record { passes = h; path_starts = refl }) k)
