-- The parts of a URI: filled, without slashes, and the only ones that a text stands for.
use Rattle.std.proofs.Common.{◌≡◌, ℕ, suc, ◌+◌, ◌-◌, ◌<◌, Bool, true, false, cond, not, ◌&&◌, ◌||◌, nat_lt, List, []}
use Rattle.std.proofs.Common.{◌∷◌, ◌++◌, length, take, drop, codes, None, sym, refl, ap, ◌∙◌, arith}
use Rattle.std.specs.List.{list_all, list_any, before_first, after_first, position_or_len, join_with_byte, onto_first}
use Rattle.std.specs.Char.{to_ascii_lowercase}
use Rattle.std.specs.Cmp.{first_so, second_so}
use Rattle.std.proofs.lemmas.List.{append_assoc, append-nil, length-drop, length-take-le}
use Rattle.std.proofs.lemmas.Bool.Decides.{nat_tests}
use Rattle.std.proofs.Math.Seq.{take-append_seam, drop-append_seam, drop-append-add}
use Rattle.rpki_text.specs.UriText.{lowercase}
use Rattle.rpki_text.specs.Segments.{is_slash, pieces, names_of, has_empty_last, segments, is_dir, path_text}
use Rattle.rpki_text.specs.RsyncText.{piece_refusal, names_refusal, authority_of, module_name_of, path_of, RsyncUri}
use Rattle.rpki_text.specs.RsyncText.{uri_of, is_part, IsRsyncUri, IsCut, Spells}
use Rattle.rpki_text.specs.SegmentLaws.{IsFilled}
use Rattle.rpki_text.proofs.SegmentLaws.{pieces-append, names_of-append, has_empty_last-append}
use Rattle.rpki_text.proofs.CutLaws.{cut-facts}
use Rattle.rpki_text.proofs.JoinLaws.{head-of, path-names, option-or-rest, names_of-open}
use Rattle.rpki_text.proofs.TextLaws.{length-lowercase}

-- ---- letters' case

lower-again : (c : ℕ) → to_ascii_lowercase (to_ascii_lowercase c) ≡ to_ascii_lowercase c
lower-again c = grind (arith, nat_tests)

pub lowercase-lowercase : (t : List ℕ) → lowercase (lowercase t) ≡ lowercase t
lowercase-lowercase [] = refl
lowercase-lowercase (c ∷ t) = rw (lower-again c) (ap (λ r. to_ascii_lowercase c ∷ r) (lowercase-lowercase t))

lower-slash : (c : ℕ) → is_slash (to_ascii_lowercase c) ≡ is_slash c
lower-slash c = grind (arith, nat_tests)

pub slash-lowercase : (t : List ℕ) → list_any is_slash (lowercase t) ≡ list_any is_slash t
slash-lowercase [] = refl
slash-lowercase (c ∷ t) = rw (lower-slash c) (ap (λ v. is_slash c || v) (slash-lowercase t))

-- ---- pieces have no slash

and-both : (a b : Bool) → a ≡ true → b ≡ true → (a && b) ≡ true
and-both true b h k = k
and-both false b h k = h

abbrev pub no_slash : List ℕ → Bool
no_slash part = not (list_any is_slash part)

pub slash-free : (part : List ℕ) → no_slash part ≡ true → list_any is_slash part ≡ false
slash-free part h = by_cases (list_any is_slash part) h where
  by_cases : (v : Bool) → not v ≡ true → v ≡ false
  by_cases true e = cc
  by_cases false e = refl

onto-first-no_slash : (b : ℕ) (ps : List (List ℕ)) → is_slash b ≡ false → list_all no_slash ps ≡ true
    → list_all no_slash (onto_first b ps) ≡ true
onto-first-no_slash b [] e h = rw e refl
onto-first-no_slash b (p ∷ ps) e h = rw e h

pub pieces-no_slash : (t : List ℕ) → list_all no_slash (pieces t) ≡ true
pieces-no_slash [] = refl
pieces-no_slash (b ∷ bs) = by_cases (is_slash b) refl (pieces-no_slash bs) where
  by_cases : (v : Bool) → is_slash b ≡ v → list_all no_slash (pieces bs) ≡ true
      → list_all no_slash (cond v ([] ∷ pieces bs) (onto_first b (pieces bs))) ≡ true
  by_cases true e h = h
  by_cases false e h = onto-first-no_slash b (pieces bs) e h

names_of-no_slash : (ps : List (List ℕ)) → list_all no_slash ps ≡ true → list_all no_slash (names_of ps) ≡ true
names_of-no_slash [] h = refl
names_of-no_slash ([] ∷ []) h = refl
names_of-no_slash ((b ∷ bs) ∷ []) h = h
names_of-no_slash ([] ∷ q ∷ qs) h = names_of-no_slash (q ∷ qs) h
names_of-no_slash ((b ∷ bs) ∷ q ∷ qs) h =
    and-both (no_slash (b ∷ bs)) _ (first_so (no_slash (b ∷ bs)) _ h)
    (names_of-no_slash (q ∷ qs) (second_so (no_slash (b ∷ bs)) _ h))

filled-part : (b : ℕ) (bs : List ℕ) → no_slash (b ∷ bs) ≡ true → is_part (b ∷ bs) ≡ true
filled-part b bs h = and-both (nat_lt 0 (length (b ∷ bs))) _ (grind (arith, nat_tests)) h

named-parts : (ns : List (List ℕ)) → list_all no_slash ns ≡ true → names_refusal ns ≡ None → list_all is_part ns ≡ true
named-parts [] h k = refl
named-parts ([] ∷ ns) h k = cc
named-parts ((b ∷ bs) ∷ ns) h k =
    and-both (is_part (b ∷ bs)) _ (filled-part b bs (first_so (no_slash (b ∷ bs)) _ h))
    (named-parts ns (second_so (no_slash (b ∷ bs)) _ h) (option-or-rest (piece_refusal (b ∷ bs)) (names_refusal ns) k))

pub segments-parts : (t : List ℕ) → names_refusal (segments t) ≡ None → list_all is_part (segments t) ≡ true
unfolding segments
segments-parts t h = named-parts (names_of (pieces t)) (names_of-no_slash (pieces t) (pieces-no_slash t)) h

-- a path without segments is a directory
no-names : (ps : List (List ℕ)) → names_of ps ≡ [] → has_empty_last ps ≡ true
no-names [] h = refl
no-names ([] ∷ []) h = refl
no-names ((b ∷ bs) ∷ []) h = cc
no-names ([] ∷ q ∷ qs) h = cc
no-names ((b ∷ bs) ∷ q ∷ qs) h = cc

root-is_dir : (t : List ℕ) → segments t ≡ [] → is_dir t ≡ true
unfolding segments is_dir
root-is_dir t h = no-names (pieces t) h

-- ---- what is before the first slash

front-no_slash : (xs : List ℕ) (n : ℕ) → n ≡ position_or_len is_slash xs → list_any is_slash (take n xs) ≡ false
front-no_slash [] n e = rw e refl
front-no_slash (x ∷ xs) n e = by_cases (is_slash x) refl e (front-no_slash xs (position_or_len is_slash xs) refl) where
  by_cases : (v : Bool) → is_slash x ≡ v → n ≡ cond (not v) (1 + position_or_len is_slash xs) 0
      → list_any is_slash (take (position_or_len is_slash xs) xs) ≡ false
      → list_any is_slash (take n (x ∷ xs)) ≡ false
  by_cases true s k ih = ap (λ m. list_any is_slash (take m (x ∷ xs))) k
  by_cases false s k ih =
      let at : n ≡ suc (position_or_len is_slash xs) = omega arith in
      ap (λ m. list_any is_slash (take m (x ∷ xs))) at ∙ rw s ih

pub before-first-no_slash : (xs : List ℕ) → list_any is_slash (before_first is_slash xs) ≡ false
before-first-no_slash xs = front-no_slash xs _ refl

position-at : (a r : List ℕ) → list_any is_slash a ≡ false → position_or_len is_slash (a ++ 47 ∷ r) ≡ length a
position-at [] r h = refl
position-at (x ∷ a) r h = by_cases (is_slash x) h (λ k. position-at a r k) where
  by_cases : (v : Bool) → (v || list_any is_slash a) ≡ false
      → (list_any is_slash a ≡ false → position_or_len is_slash (a ++ 47 ∷ r) ≡ length a)
      → cond (not v) (1 + position_or_len is_slash (a ++ 47 ∷ r)) 0 ≡ length (x ∷ a)
  by_cases true e ih = cc
  by_cases false e ih = let at : position_or_len is_slash (a ++ 47 ∷ r) ≡ length a = ih e in omega arith

pub before-slash : (a r : List ℕ) → list_any is_slash a ≡ false → before_first is_slash (a ++ 47 ∷ r) ≡ a
before-slash a r h = ap (λ n. take n (a ++ 47 ∷ r)) (position-at a r h) ∙ take-append_seam a (47 ∷ r)

pub after-slash : (a r : List ℕ) → list_any is_slash a ≡ false → after_first is_slash (a ++ 47 ∷ r) ≡ r
after-slash a r h = ap (λ n. drop (n + 1) (a ++ 47 ∷ r)) (position-at a r h) ∙ drop-append-add a (47 ∷ r) 1

-- ---- what every text stands for

part-from : (s : List ℕ) → 0 < length s → list_any is_slash s ≡ false → is_part s ≡ true
part-from s l h = rw h (and-both (nat_lt 0 (length s)) true (grind (arith, nat_tests)) refl)

pub uri_of-parts : (t : List ℕ) (m p : ℕ) → IsCut t m p → IsRsyncUri (uri_of t)
unfolding uri_of authority_of module_name_of
uri_of-parts t m p c =
    let facts = cut-facts t m p c in
    let l : length (drop 8 t) ≡ length t - 8 = length-drop 8 t in
    let a : length (authority_of t) ≡ m - 9 = ap length facts.authority_is ∙ length-take-le (m - 9) (drop 8 t)
    (omega (arith, facts.fits, facts.module_name, facts.authority)) in
    let k : length (drop m t) ≡ length t - m = length-drop m t in
    let n : length (module_name_of t) ≡ p - m - 1 = ap length facts.module_name_is ∙ length-take-le (p - m - 1)
    (drop m t) (omega (arith, facts.fits, facts.module_name, facts.authority)) in
    record {
      lower = lowercase-lowercase (authority_of t);
      parts = and-both (is_part (lowercase (authority_of t))) _
          (part-from (lowercase (authority_of t)) (omega (arith, length-lowercase (authority_of t), a, facts.authority))
          (slash-lowercase (authority_of t) ∙ before-first-no_slash (drop 8 t)))
          (and-both (is_part (module_name_of t)) _
          (part-from (module_name_of t) (omega (arith, n, facts.module_name))
          (before-first-no_slash (after_first is_slash (drop 8 t))))
          (segments-parts (path_of t) (path-names t m p c (head-of t m p c))));
      root = root-is_dir (path_of t);
    }

-- ---- a text stands for one URI

one-piece : (p : List ℕ) → list_any is_slash p ≡ false → pieces p ≡ p ∷ []
one-piece [] h = refl
one-piece (x ∷ p) h = by_cases (is_slash x) h (λ k. one-piece p k) where
  by_cases : (v : Bool) → (v || list_any is_slash p) ≡ false → (list_any is_slash p ≡ false → pieces p ≡ p ∷ [])
      → cond v ([] ∷ pieces p) (onto_first x (pieces p)) ≡ (x ∷ p) ∷ []
  by_cases true e ih = cc
  by_cases false e ih = ap (onto_first x) (ih e)

join-pieces : (ps : List (List ℕ)) → IsFilled ps → list_all no_slash ps ≡ true → pieces (join_with_byte 47 ps) ≡ ps
join-pieces [] f h = cc
join-pieces (p ∷ []) f h = one-piece p (slash-free p (first_so (no_slash p) _ h))
join-pieces (p ∷ q ∷ ps) f h =
    pieces-append p (join_with_byte 47 (q ∷ ps)) ∙ ap (λ s. s ++ pieces (join_with_byte 47 (q ∷ ps)))
    (one-piece p (slash-free p (first_so (no_slash p) _ h)))
    ∙ ap (λ s. p ∷ s) (join-pieces (q ∷ ps) (record { first = q; others = ps; is = refl }) (second_so (no_slash p) _ h))

parts-free : (ns : List (List ℕ)) → list_all is_part ns ≡ true → list_all no_slash ns ≡ true
parts-free [] h = refl
parts-free (n ∷ ns) h = and-both (no_slash n) _ (second_so (nat_lt 0 (length n)) _ (first_so (is_part n) _ h))
    (parts-free ns (second_so (is_part n) _ h))

parts-open : (ns : List (List ℕ)) → IsFilled ns → list_all is_part ns ≡ true → has_empty_last ns ≡ false
parts-open [] f h = cc
parts-open ([] ∷ []) f h = cc
parts-open ((b ∷ bs) ∷ []) f h = refl
parts-open ([] ∷ q ∷ qs) f h = cc
parts-open ((b ∷ bs) ∷ q ∷ qs) f h =
    parts-open (q ∷ qs) (record { first = q; others = qs; is = refl }) (second_so (is_part (b ∷ bs)) _ h)

all-append : (ps qs : List (List ℕ)) → list_all no_slash ps ≡ true → list_all no_slash qs ≡ true
    → list_all no_slash (ps ++ qs) ≡ true
all-append [] qs h k = k
all-append (p ∷ ps) qs h k =
    and-both (no_slash p) _ (first_so (no_slash p) _ h) (all-append ps qs (second_so (no_slash p) _ h) k)

-- a path by its segments and its mark, read again
record PathParts (names : List (List ℕ)) (dir : Bool) : Type 0 where
  pub names_are : segments (path_text names dir) ≡ names
  pub mark_is : is_dir (path_text names dir) ≡ dir

path-parts : (names : List (List ℕ)) (dir : Bool) → list_all is_part names ≡ true → (names ≡ [] → dir ≡ true)
    → PathParts names dir
unfolding segments is_dir path_text
path-parts [] true h root = record { names_are = refl; mark_is = refl }
path-parts [] false h root = let no : false ≡ true = root refl in cc
path-parts (n ∷ ns) true h root =
    let free : list_all no_slash ((n ∷ ns) ++ [] ∷ []) ≡ true = all-append (n ∷ ns) ([] ∷ []) (parts-free (n ∷ ns) h)
    refl in
    let is : pieces (join_with_byte 47 ((n ∷ ns) ++ [] ∷ [])) ≡ (n ∷ ns) ++ [] ∷ [] = join-pieces ((n ∷ ns) ++ [] ∷ [])
    (record { first = n; others = ns ++ [] ∷ []; is = refl }) free in
    let one : IsFilled ([] ∷ []) = record { first = []; others = []; is = refl } in
    record {
      names_are = ap names_of is ∙ names_of-append (n ∷ ns) ([] ∷ []) one ∙ append-nil (n ∷ ns);
      mark_is = ap has_empty_last is ∙ has_empty_last-append (n ∷ ns) ([] ∷ []) one;
    }
path-parts (n ∷ ns) false h root =
    let none : (n ∷ ns) ++ [] ≡ n ∷ ns = append-nil (n ∷ ns) in
    let is : pieces (join_with_byte 47 ((n ∷ ns) ++ [])) ≡ n ∷ ns = ap (λ s. pieces (join_with_byte 47 s)) none ∙
    join-pieces (n ∷ ns) (record { first = n; others = ns; is = refl }) (parts-free (n ∷ ns) h) in
    let open_end : has_empty_last (n ∷ ns) ≡ false = parts-open (n ∷ ns) (record { first = n; others = ns; is = refl })
    h in
    record {
      names_are = ap names_of is ∙ names_of-open (n ∷ ns) open_end;
      mark_is = ap has_empty_last is ∙ open_end;
    }

-- the parts of a text that is put together
pub record ReadParts (text authority module_name path : List ℕ) : Type 0 where
  pub authority_is : authority_of text ≡ authority
  pub module_name_is : module_name_of text ≡ module_name
  pub path_is : path_of text ≡ path

regroup : (s a m p : List ℕ) → ((((s ++ a) ++ codes "/") ++ m) ++ codes "/") ++ p ≡ s ++ (a ++ 47 ∷ (m ++ 47 ∷ p))
regroup s a m p = simp append_assoc refl

pub read-parts : (s a m p : List ℕ) → length s ≡ 8 → list_any is_slash a ≡ false → list_any is_slash m ≡ false
    → ReadParts (((((s ++ a) ++ codes "/") ++ m) ++ codes "/") ++ p) a m p
unfolding authority_of module_name_of path_of
read-parts s a m p l fa fm =
    let rest : drop 8 (((((s ++ a) ++ codes "/") ++ m) ++ codes "/") ++ p) ≡ a ++ 47 ∷ (m ++ 47 ∷ p) =
    ap (drop 8) (regroup s a m p) ∙ ap (λ n. drop n (s ++ (a ++ 47 ∷ (m ++ 47 ∷ p)))) (sym l) ∙ drop-append_seam s
    (a ++ 47 ∷ (m ++ 47 ∷ p)) in
    let tail : after_first is_slash (drop 8 (((((s ++ a) ++ codes "/") ++ m) ++ codes "/") ++ p)) ≡ m ++ 47 ∷ p = ap
    (after_first is_slash) rest ∙ after-slash a (m ++ 47 ∷ p) fa in
    record {
      authority_is = ap (before_first is_slash) rest ∙ before-slash a (m ++ 47 ∷ p) fa;
      module_name_is = ap (before_first is_slash) tail ∙ before-slash m p fm;
      path_is = ap (after_first is_slash) tail ∙ after-slash m p fm;
    }

part-free : (s : List ℕ) → is_part s ≡ true → list_any is_slash s ≡ false
part-free s h = slash-free s (second_so (nat_lt 0 (length s)) _ h)

pub one-meaning : (t : List ℕ) (u : RsyncUri) → Spells t u → IsRsyncUri u → u ≡ uri_of t
unfolding uri_of
one-meaning t u s k =
    let rest : (is_part u.module_name && list_all is_part u.segments) ≡ true = second_so (is_part u.authority) _ k.parts
    in
    let long : length s.scheme ≡ 8 = sym (length-lowercase s.scheme) ∙ ap length s.any_case.0 in
    let fa : list_any is_slash s.authority ≡ false = sym (slash-lowercase s.authority) ∙ ap (list_any is_slash)
    s.any_case.1 ∙ part-free u.authority (first_so (is_part u.authority) _ k.parts) in
    let fm : list_any is_slash u.module_name ≡ false = part-free u.module_name (first_so (is_part u.module_name) _ rest)
    in
    let path = path-parts u.segments u.is_dir (second_so (is_part u.module_name) _ rest) k.root in
    let read = read-parts s.scheme s.authority u.module_name (path_text u.segments u.is_dir) long fa fm in
    let a : lowercase (authority_of t) ≡ u.authority = ap (λ x. lowercase (authority_of x)) s.is ∙ ap lowercase
    read.authority_is ∙ s.any_case.1 in
    let m : module_name_of t ≡ u.module_name = ap module_name_of s.is ∙ read.module_name_is in
    let p : path_of t ≡ path_text u.segments u.is_dir = ap path_of s.is ∙ read.path_is in
    rw (a, m, p, path.names_are, path.mark_is) refl
