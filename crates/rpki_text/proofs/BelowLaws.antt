-- The path below another, by the bytes of the two.
use Rattle.std.proofs.Common.{◌≡◌, ℕ, ◌-◌, ◌<◌, nat_lt, Bool, true, false, cond, ◌&&◌, List, [], ◌∷◌, ◌++◌, length}
use Rattle.std.proofs.Common.{take, drop, Option, Some, None, bytes_eq, sym, refl, ap, ◌∙◌, ◌⊎◌, inl, inr, arith}
use Rattle.std.specs.List.{join_with_byte}
use Rattle.std.specs.Option.{option_map}
use Rattle.std.proofs.lemmas.List.{append_assoc, append-nil}
use Rattle.std.proofs.lemmas.List.Splits.{join_with_byte-slice_split}
use Rattle.std.proofs.lemmas.Slice.Eq.{bytes_eq-Decides}
use Rattle.std.proofs.Math.Seq.{drop-append_seam}
use Rattle.rpki_text.specs.SegmentLaws.{IsFilled, pieces-filled, path_text-segments}
use Rattle.rpki_text.specs.Segments.{pieces, has_empty_last, segments, is_dir, path_text}
use Rattle.rpki_text.specs.UriText.{lowercase}
use Rattle.rpki_text.specs.HttpsText.{without_slash}
use Rattle.rpki_text.specs.RsyncText.{strip_prefix, names_refusal, piece_refusal, path_left, relative, uri_of}
use Rattle.rpki_text.specs.RsyncText.{authority_of, module_name_of, path_of}
use Rattle.rpki_text.proofs.SegmentLaws.{path_text-none}
use Rattle.rpki_text.proofs.HttpsPartLaws.{without_slash-stripped}
use Rattle.rpki_text.proofs.JoinLaws.{SlashCases, slash-cases, segments-before-slash, segments-at-slash}
use Rattle.rpki_text.proofs.JoinLaws.{is_dir-at-slash, open-path, strip_prefix-append, option-or-rest}
use Rattle.rpki_text.proofs.RelativeLaws.{relative-same_module}

join-filled : (p : List ℕ) (qs : List (List ℕ)) → IsFilled qs
    → join_with_byte 47 (p ∷ qs) ≡ p ++ 47 ∷ join_with_byte 47 qs
join-filled p qs f = rw f.is refl

join-append : (ps qs : List (List ℕ)) → IsFilled ps → IsFilled qs
    → join_with_byte 47 (ps ++ qs) ≡ join_with_byte 47 ps ++ 47 ∷ join_with_byte 47 qs
join-append [] qs f k = cc
join-append (p ∷ []) qs f k = join-filled p qs k
join-append (p ∷ q ∷ ps) qs f k =
    ap (λ s. p ++ 47 ∷ s) (join-append (q ∷ ps) qs (record { first = q; others = ps; is = refl }) k)
    ∙ sym (append_assoc p (47 ∷ join_with_byte 47 (q ∷ ps)) (47 ∷ join_with_byte 47 qs))

bytes-eq-is : (u v : List ℕ) → bytes_eq u v ≡ true → u ≡ v
bytes-eq-is u v h = (bytes_eq-Decides u v).0 h

-- the rest comes after the prefix
pub strip_prefix-is : (us vs left : List (List ℕ)) → strip_prefix us vs ≡ Some left → us ≡ vs ++ left
strip_prefix-is us [] left h = cc
strip_prefix-is [] (v ∷ vs) left h = cc
strip_prefix-is (u ∷ us) (v ∷ vs) left h = by_cases (bytes_eq u v) refl h (λ k. strip_prefix-is us vs left k) where
  by_cases : (b : Bool) → bytes_eq u v ≡ b → cond b (strip_prefix us vs) None ≡ Some left
      → (strip_prefix us vs ≡ Some left → us ≡ vs ++ left) → u ∷ us ≡ (v ∷ vs) ++ left
  by_cases true e k ih = let same : u ≡ v = bytes-eq-is u v e in let more : us ≡ vs ++ left = ih k in cc
  by_cases false e k ih = cc

-- the two ways in which a path is at or below another
abbrev pub AtOrBelow : List ℕ → List ℕ → Type 0
AtOrBelow path b = (path ≡ b) ⊎ ((r : List ℕ) × (path ≡ b ++ 47 ∷ r))

below-by : (b : List ℕ) (more : List (List ℕ)) (path : List ℕ) → path ≡ join_with_byte 47 (pieces b ++ more)
    → AtOrBelow path b
below-by b [] path h = inl (h ∙ ap (join_with_byte 47) (append-nil (pieces b)) ∙ join_with_byte-slice_split 47 b)
below-by b (q ∷ qs) path h =
    inr (
      join_with_byte 47 (q ∷ qs),
      h ∙ join-append (pieces b) (q ∷ qs) (pieces-filled b)
          (record { first = q; others = qs; is = refl }) ∙ ap (λ s. s ++ 47 ∷ join_with_byte 47 (q ∷ qs))
          (join_with_byte-slice_split 47 b),
    )

at-or-below : (path b : List ℕ) (left : List (List ℕ)) → strip_prefix (segments path) (pieces b) ≡ Some left
    → AtOrBelow path b
unfolding path_text
at-or-below path b left h =
    let mark : List (List ℕ) = cond (is_dir path) ([] ∷ []) [] in
    below-by b (left ++ mark) path
    (sym (path_text-segments path) ∙ ap (λ s. join_with_byte 47 (s ++ mark))
    (strip_prefix-is (segments path) (pieces b) left h) ∙ ap (join_with_byte 47) (append_assoc (pieces b) left mark))

none-from : (o : Option (List (List ℕ))) → ((left : List (List ℕ)) → o ≡ Some left → ⊥) → o ≡ None
none-from None h = refl
none-from (Some left) h = absurd (h left refl)

path_left-none : (path b : List ℕ) → (AtOrBelow path b → ⊥) → path_left path (pieces b) ≡ None
unfolding path_left
path_left-none path b h = ap (option_map (λ left. path_text left (is_dir path)))
    (none-from (strip_prefix (segments path) (pieces b)) (λ left e. h (at-or-below path b left e)))

pub path_left-same : (path b : List ℕ) → is_dir b ≡ false → path ≡ b → path_left path (pieces b) ≡ Some []
unfolding path_left
path_left-same path b h e =
    let s : segments path ≡ pieces b ++ [] = ap segments e ∙ open-path b h ∙ sym (append-nil (pieces b)) in
    ap (λ us. option_map (λ left. path_text left (is_dir path)) (strip_prefix us (pieces b))) s ∙ ap
    (option_map (λ left. path_text left (is_dir path))) (strip_prefix-append (pieces b) []) ∙ ap Some
    (path_text-none (is_dir path))

pub path_left-below : (path b r : List ℕ) → path ≡ b ++ 47 ∷ r → path_left path (pieces b) ≡ Some r
unfolding path_left
path_left-below path b r e =
    let s : segments path ≡ pieces b ++ segments r = ap segments e ∙ segments-at-slash b r in
    let d : is_dir path ≡ is_dir r = ap is_dir e ∙ is_dir-at-slash b r in
    ap (λ us. option_map (λ left. path_text left (is_dir path)) (strip_prefix us (pieces b))) s ∙ ap
    (option_map (λ left. path_text left (is_dir path))) (strip_prefix-append (pieces b) (segments r))
    ∙ ap Some (ap (path_text (segments r)) d ∙ path_text-segments r)

pub path_left-root : (path : List ℕ) → path_left path [] ≡ Some path
unfolding path_left
path_left-root path = ap Some (path_text-segments path)

not-slash-below : (path b : List ℕ) (x : ℕ) (rest : List ℕ) → drop (length b) path ≡ x ∷ rest → (x ≡ 47 → ⊥)
    → AtOrBelow path b → ⊥
not-slash-below path b x rest d h (inl e) =
    let none : drop (length b) path ≡ [] = ap (drop (length b)) (e ∙ sym (append-nil b)) ∙ drop-append_seam b [] in cc
not-slash-below path b x rest d h (inr (r, e)) =
    let some : drop (length b) path ≡ 47 ∷ r = ap (drop (length b)) e ∙ drop-append_seam b (47 ∷ r) in
    let at : x ≡ 47 = cc in h at

last-named : (ps : List (List ℕ)) → IsFilled ps → names_refusal ps ≡ None → has_empty_last ps ≡ false
last-named [] f h = cc
last-named ([] ∷ []) f h = cc
last-named ((b ∷ bs) ∷ []) f h = refl
last-named ([] ∷ q ∷ qs) f h = cc
last-named ((b ∷ bs) ∷ q ∷ qs) f h = last-named (q ∷ qs) (record { first = q; others = qs; is = refl })
    (option-or-rest (piece_refusal (b ∷ bs)) (names_refusal (q ∷ qs)) h)

-- a path whose pieces are all good has no slash last
pub named-open : (t : List ℕ) → names_refusal (pieces t) ≡ None → is_dir t ≡ false
unfolding is_dir
named-open t h = last-named (pieces t) (pieces-filled t) h

and-false : (x y : Bool) → y ≡ false → (x && y) ≡ false
and-false true y h = h
and-false false y h = refl

-- a base without its last slash: its pieces are the segments, and it has no slash last
abbrev pub IsTrimmed : List ℕ → Type 0
IsTrimmed base = (segments base ≡ pieces (without_slash base)) × (is_dir (without_slash base) ≡ false)

trimmed : (base : List ℕ) → 0 < length base → names_refusal (segments base) ≡ None → IsTrimmed base
trimmed base l good = by_cases (slash-cases base) where
  by_cases : SlashCases base → IsTrimmed base
  by_cases (inl o) =
      let same : without_slash base ≡ base = ap (λ v. cond v (take (length base - 1) base) base)
      (and-false (nat_lt 0 (length base)) _ o) in rw same (open-path base o, o)
  by_cases (inr (inl e)) = absurd (omega (arith, ap length e))
  by_cases (inr (inr (f, e))) =
      let same : f ≡ without_slash base = without_slash-stripped base f e in
      let names : segments base ≡ pieces f = ap segments e ∙ segments-before-slash f in
      rw (← same) (names, named-open f (ap names_refusal (sym names) ∙ good))

-- the path below a base, by what follows the base in it
pub below-none : (path base : List ℕ) → 0 < length base → names_refusal (segments base) ≡ None
    → ((rest : List ℕ) → path ≡ without_slash base ++ rest → ⊥) → path_left path (segments base) ≡ None
below-none path base l good h =
    ap (path_left path) (trimmed base l good).0 ∙ path_left-none path (without_slash base) none where
      none : AtOrBelow path (without_slash base) → ⊥
      none (inl e) = h [] (e ∙ sym (append-nil (without_slash base)))
      none (inr (r, e)) = h (47 ∷ r) e

pub below-same : (path base : List ℕ) → 0 < length base → names_refusal (segments base) ≡ None
    → path ≡ without_slash base ++ [] → path_left path (segments base) ≡ Some []
below-same path base l good e =
    let t = trimmed base l good in ap (path_left path) t.0 ∙ path_left-same path (without_slash base) t.1
    (e ∙ append-nil (without_slash base))

pub below-slash : (path base r : List ℕ) → 0 < length base → names_refusal (segments base) ≡ None
    → path ≡ without_slash base ++ 47 ∷ r → path_left path (segments base) ≡ Some r
below-slash path base r l good e =
    ap (path_left path) (trimmed base l good).0 ∙ path_left-below path (without_slash base) r e

pub below-other : (path base : List ℕ) (x : ℕ) (rest : List ℕ) → 0 < length base → names_refusal (segments base) ≡ None
    → path ≡ without_slash base ++ x ∷ rest → (x ≡ 47 → ⊥)
    → path_left path (segments base) ≡ None
below-other path base x rest l good e h =
    let b = without_slash base in
    ap (path_left path) (trimmed base l good).0 ∙ path_left-none path b
    (not-slash-below path b x rest (ap (drop (length b)) e ∙ drop-append_seam b (x ∷ rest)) h)

pub relative-path_left : (u v : List ℕ)
    → (bytes_eq (lowercase (authority_of u)) (lowercase (authority_of v)) && bytes_eq (module_name_of u)
    (module_name_of v)) ≡ true
    → relative (uri_of u) (uri_of v) ≡ path_left (path_of u) (segments (path_of v))
unfolding path_left
relative-path_left u v h = relative-same_module u v h

option-map-some : (f : List (List ℕ) → List ℕ) (o : Option (List (List ℕ))) (p : List ℕ) → option_map f o ≡ Some p
    → (left : List (List ℕ)) × (o ≡ Some left)
option-map-some f None p h = cc
option-map-some f (Some left) p h = (left, refl)

pub path_left-some : (path b p : List ℕ) → path_left path (pieces b) ≡ Some p → AtOrBelow path b
unfolding path_left
path_left-some path b p h = let k = option-map-some (λ left. path_text left (is_dir path))
    (strip_prefix (segments path) (pieces b)) p h in at-or-below path b k.0 k.1
