-- What the texts that `join`, `parent` and `path_into_dir` make stand for, and how they begin.
use Rattle.std.proofs.Common.{◌≡◌, ℕ, ◌+◌, ◌-◌, ◌<◌, ◌≤◌, Bool, true, false, cond, ◌&&◌, ◌==◌, nat_lt, nat_le, List, []}
use Rattle.std.proofs.Common.{◌∷◌, ◌++◌, length, take, drop, Option, Some, None, bytes_eq, sym, refl, ap, ◌∙◌, arith}
use Rattle.std.specs.List.{list_all}
use Rattle.std.specs.Option.{option_map, is_some}
use Rattle.std.specs.Cmp.{first_so, second_so}
use Rattle.std.specs.Cmp.Lexicographic.{pointwise, pointwise_decides}
use Rattle.std.proofs.lemmas.List.{take-append-drop, append_assoc, append-nil, length-append, length-drop}
use Rattle.std.proofs.lemmas.List.{length-take-le, take-append-le, take_all}
use Rattle.std.proofs.lemmas.List.Folds.{list_all-append}
use Rattle.std.proofs.lemmas.Slice.Eq.{bytes_eq-Decides}
use Rattle.std.proofs.lemmas.Bool.{false_from_ne_true}
use Rattle.std.proofs.lemmas.Bool.Decides.{nat_tests}
use Rattle.std.proofs.Math.Seq.{take-append_seam}
use Rattle.rpki_text.specs.declared.uri.error.Error.TheVariants.{LongUri}
use Rattle.rpki_text.specs.UriText.{lowercase, is_uri_byte}
use Rattle.rpki_text.specs.Segments.{segments, is_dir, path_text, with_slash}
use Rattle.rpki_text.specs.RsyncText.{authority_of, module_name_of, path_of, RsyncUri, uri_of, IsCut, joined}
use Rattle.rpki_text.specs.RsyncText.{joined_uri, join_refusal, path_refusal, names_refusal, relative, strip_prefix}
use Rattle.rpki_text.specs.RsyncText.{same_module, is_parent, is_identical, parent_uri, without_last, IsParentText}
use Rattle.rpki_text.specs.RsyncText.{IsWayBack}
use Rattle.rpki_text.proofs.SegmentLaws.{path_text-none, segments-empty, is_dir-empty}
use Rattle.rpki_text.proofs.CutLaws.{cut-facts}
use Rattle.rpki_text.proofs.JoinLaws.{joined-filled, uri_of-joined, join-tested, strip_prefix-append, head-of}
use Rattle.rpki_text.proofs.JoinLaws.{path-names, names_refusal-back, segments-joined, joined-text, join-refuses-path}
use Rattle.rpki_text.proofs.JoinLaws.{join-refuses-length, join-refuses-nothing}
use Rattle.rpki_text.proofs.BelowLaws.{strip_prefix-is}
use Rattle.rpki_text.proofs.ParentLaws.{path_text-some}
use Rattle.rpki_text.proofs.BackLaws.{WayParts, way-parts, joined-relative}
use Rattle.rpki_text.proofs.TextLaws.{length-lowercase}

-- ---- join

pub joined-meaning : (t : List ℕ) (m n : ℕ) → IsCut t m n → (p : List ℕ) → join_refusal t p ≡ None
    → uri_of (joined t p) ≡ joined_uri (uri_of t) p
unfolding joined joined_uri
joined-meaning t m n c [] h = refl
joined-meaning t m n c (b ∷ p) h =
    let tested = join-tested t (b ∷ p) h in uri_of-joined t m n c (b ∷ p) tested.0 tested.1

with_slash-begins : (t : List ℕ) → take (length t) (with_slash t) ≡ t
unfolding with_slash
with_slash-begins t = by_cases (is_dir t) where
  by_cases : (v : Bool) → take (length t) (cond v t (t ++ 47 ∷ [])) ≡ t
  by_cases true = take_all (length t) t (omega arith)
  by_cases false = take-append_seam t (47 ∷ [])

with_slash-long : (t : List ℕ) → length t ≤ length (with_slash t)
unfolding with_slash
with_slash-long t = by_cases (is_dir t) where
  by_cases : (v : Bool) → length t ≤ length (cond v t (t ++ 47 ∷ []))
  by_cases true = omega arith
  by_cases false = omega (arith, length-append t (47 ∷ []))

pub joined-begins : (t p : List ℕ) → take (length t) (joined t p) ≡ t
unfolding joined
joined-begins t [] = take_all (length t) t (omega arith)
joined-begins t (b ∷ p) = take-append-le (length t) (with_slash t) (b ∷ p) (with_slash-long t) ∙ with_slash-begins t

pub into_dir-begins : (t : List ℕ) → take (length t) (with_slash t) ≡ t
into_dir-begins t = with_slash-begins t

pub into_dir-meaning : (t : List ℕ) (m n : ℕ) → IsCut t m n → is_dir (path_of t) ≡ false
    → uri_of (with_slash t) ≡ record (uri_of t) { is_dir = true }
unfolding uri_of
into_dir-meaning t m n c h =
    sym (ap uri_of (append-nil (with_slash t))) ∙ uri_of-joined t m n c [] refl (ap names_refusal segments-empty)
    ∙ ap (λ s. record {
      authority = lowercase (authority_of t);
      module_name = module_name_of t;
      segments = s;
      is_dir =
          is_dir [];
    }) (ap (λ s. segments (path_of t) ++ s) segments-empty ∙ append-nil (segments (path_of t)))
    ∙ ap (λ d. record {
      authority = lowercase (authority_of t);
      module_name = module_name_of t;
      segments = segments
          (path_of t);
      is_dir = d;
    }) is_dir-empty

-- a directory stays as it is
pub into_dir-same : (t : List ℕ) → is_dir (path_of t) ≡ true → uri_of t ≡ record (uri_of t) { is_dir = true }
unfolding uri_of
into_dir-same t h = ap
    (λ d. record {
      authority = lowercase (authority_of t);
      module_name = module_name_of t;
      segments = segments
          (path_of t);
      is_dir = d;
    }) h

-- ---- parents

pub parent-there : (u : RsyncUri) → is_some (parent_uri u) ≡ nat_lt 0 (length u.segments)
unfolding parent_uri
parent-there u = by_cases u.segments where
  made : List (List ℕ) → RsyncUri
  made names = record { authority = u.authority; module_name = u.module_name; segments = names; is_dir = true }

  by_cases : (names : List (List ℕ)) → is_some (option_map made (without_last names)) ≡ nat_lt 0 (length names)
  by_cases [] = refl
  by_cases (name ∷ more) = grind (arith, nat_tests)

same_text-bytes : (s : List ℕ) → bytes_eq s s ≡ true
same_text-bytes s = (bytes_eq-Decides s s).1 refl

-- the parent lies above, and has one segment fewer
pub record IsAbove (v u : RsyncUri) : Type 0 where
  pub one_fewer : length v.segments + 1 ≡ length u.segments
  pub above : is_parent v u ≡ true

above-by : (v u : RsyncUri) (left : List (List ℕ)) → u.authority ≡ v.authority → u.module_name ≡ v.module_name
    → u.segments ≡ v.segments ++ left → 0 < length left → is_parent v u ≡ true
unfolding is_parent relative
above-by v u left a m s l =
    let longer : nat_lt (length v.segments) (length u.segments) ≡ true = rw s
    (let k : length (v.segments ++ left) ≡ length v.segments + length left = length-append v.segments left in grind
    (arith, nat_tests)) in
    rw (
      longer,
      a,
      m,
      same_text-bytes v.authority,
      same_text-bytes v.module_name,
      s,
      strip_prefix-append v.segments
          left,
    ) refl

pub parent-above : (u v : RsyncUri) → Some v ≡ parent_uri u → IsAbove v u
unfolding parent_uri
parent-above u v h = by_cases u.segments refl h where
  made : List (List ℕ) → RsyncUri
  made names = record { authority = u.authority; module_name = u.module_name; segments = names; is_dir = true }

  some_same : (x y : RsyncUri) → Some x ≡ Some y → x ≡ y
  some_same x y e = cc

  by_cases : (names : List (List ℕ)) → u.segments ≡ names → Some v ≡ option_map made (without_last names) → IsAbove v u
  by_cases [] e k = cc
  by_cases (name ∷ more) e k =
      let is : v ≡ made (take (length more) (name ∷ more)) = some_same _ _ k in
      let long : length (take (length more) (name ∷ more)) ≡ length more = length-take-le (length more) (name ∷ more)
      (omega arith) in
      let split : u.segments ≡ v.segments ++ drop (length more) (name ∷ more) =
      e ∙ sym (take-append-drop (length more) (name ∷ more)) ∙ ap
      (λ (w : RsyncUri). w.segments ++ drop (length more) (name ∷ more)) (sym is) in
      let count : length v.segments ≡ length more = ap (λ (w : RsyncUri). length w.segments) is ∙ long in
      let size : length u.segments ≡ length (name ∷ more) = ap length e in
      record {
        one_fewer = omega arith;
        above = above-by v u (drop (length more) (name ∷ more)) (sym (ap (λ (w : RsyncUri). w.authority) is))
            (sym (ap (λ (w : RsyncUri). w.module_name) is)) split
            (omega (arith, length-drop (length more) (name ∷ more)));
      }

pub parent-text : (p t : List ℕ) (k : ℕ) → p ≡ take k t → Some (uri_of p) ≡ parent_uri (uri_of t) → IsParentText p t
parent-text p t k e h =
    let up = parent-above (uri_of t) (uri_of p) h in
    record { beginning = rw e (take_again k t); one_fewer = up.one_fewer; above = up.above } where
      take_again : (k : ℕ) (t : List ℕ) → take (length (take k t)) t ≡ take k t
      take_again k t =
          ap (take (length (take k t))) (sym (take-append-drop k t)) ∙ take-append_seam (take k t) (drop k t)

-- ---- parenthood is irreflexive and transitive

pub parent-irreflexive : (u : RsyncUri) → is_parent u u ≡ false
unfolding is_parent
parent-irreflexive u = by_cases (is_some (relative u u)) where
  short : nat_lt (length u.segments) (length u.segments) ≡ false
  short = grind (arith, nat_tests)

  by_cases : (b : Bool) → (b && nat_lt (length u.segments) (length u.segments)) ≡ false
  by_cases true = short
  by_cases false = refl

-- what parenthood says of the parts
record Above (v u : RsyncUri) : Type 0 where
  authority : u.authority ≡ v.authority
  module_name : u.module_name ≡ v.module_name
  left : List (List ℕ)
  names : u.segments ≡ v.segments ++ left
  some : 0 < length left

above-parts : (v u : RsyncUri) → is_parent v u ≡ true → Above v u
unfolding is_parent relative
above-parts v u h = by_module (same_module u v) refl (first_so _ _ h) where
  longer : nat_lt (length v.segments) (length u.segments) ≡ true
  longer = second_so
      (is_some (cond (same_module u v) (option_map (λ left. path_text left u.is_dir)
      (strip_prefix u.segments v.segments)) None)) _ h

  by_left : (o : Option (List (List ℕ))) → strip_prefix u.segments v.segments ≡ o → same_module u v ≡ true
      → is_some (option_map (λ left. path_text left u.is_dir) o) ≡ true → Above v u
  by_left None e m k = cc
  by_left (Some left) e m k =
      let is : u.segments ≡ v.segments ++ left = strip_prefix-is u.segments v.segments left e in
      let size : length u.segments ≡ length v.segments + length left = ap length is ∙ length-append v.segments left in
      record {
        authority = (bytes_eq-Decides u.authority v.authority).0 (first_so _ _ m);
        module_name =
            (bytes_eq-Decides u.module_name v.module_name).0 (second_so (bytes_eq u.authority v.authority) _ m);
        left = left;
        names = is;
        some = let l : length v.segments < length u.segments = grind (arith, nat_tests, longer) in omega arith;
      }

  by_module : (b : Bool) → same_module u v ≡ b
      → is_some (cond b (option_map (λ left. path_text left u.is_dir) (strip_prefix u.segments v.segments)) None) ≡ true
      → Above v u
  by_module false e k = cc
  by_module true e k = by_left _ refl e k

pub parent-transitive : (u v w : RsyncUri) → is_parent u v ≡ true → is_parent v w ≡ true → is_parent u w ≡ true
parent-transitive u v w h k =
    let a = above-parts u v h in
    let b = above-parts v w k in
    above-by u w (a.left ++ b.left) (b.authority ∙ a.authority) (b.module_name ∙ a.module_name)
    (b.names ∙ ap (λ s. s ++ b.left) a.names ∙ append_assoc u.segments a.left b.left)
    (omega (arith, a.some, length-append a.left b.left))

-- ---- the same segments

names-differ : (us vs : List (List ℕ)) → strip_prefix us vs ≡ None → pointwise bytes_eq us vs ≡ false
names-differ us vs h =
    false_from_ne_true _ (λ e. let same : us ≡ vs = (pointwise_decides bytes_eq-Decides us vs).0 e in
    let some : strip_prefix us vs ≡ Some [] = ap (λ w. strip_prefix w vs) (same ∙ sym (append-nil vs)) ∙
    strip_prefix-append vs [] in cc)

names-test : (us vs left : List (List ℕ)) (d : Bool) (p : List ℕ) → us ≡ vs ++ left → names_refusal left ≡ None
    → p ≡ path_text left d → pointwise bytes_eq us vs ≡ (length p == 0)
names-test us vs [] d p s h e =
    let none : length p ≡ 0 = ap length (e ∙ path_text-none d) in
    (pointwise_decides bytes_eq-Decides us vs).1 (s ∙ append-nil vs) ∙ rw none refl
names-test us vs (n ∷ ns) d p s h e =
    let some : 0 < length p = rw e (path_text-some n ns d h) in
    let size : length us ≡ length vs + length (n ∷ ns) = ap length s ∙ length-append vs (n ∷ ns) in
    let other : pointwise bytes_eq us vs ≡ false = false_from_ne_true _
    (λ k. let same : length us ≡ length vs = ap length ((pointwise_decides bytes_eq-Decides us vs).0 k) in omega arith)
    in
    let filled : (length p == 0) ≡ false = grind (arith, nat_tests) in
    other ∙ sym filled

pub identical-test-none : (u v : RsyncUri) → relative u v ≡ None → is_identical u v ≡ false
unfolding relative is_identical
identical-test-none u v h = by_module (same_module u v) h where
  by_left : (o : Option (List (List ℕ))) → option_map (λ left. path_text left u.is_dir) o ≡ None → o ≡ None
  by_left None k = refl
  by_left (Some left) k = cc

  by_module : (b : Bool)
      → cond b (option_map (λ left. path_text left u.is_dir) (strip_prefix u.segments v.segments)) None ≡ None
      → (b && pointwise bytes_eq u.segments v.segments) ≡ false
  by_module false k = refl
  by_module true k = names-differ u.segments v.segments (by_left _ k)

pub identical-test-some : (t : List ℕ) (m n : ℕ) → IsCut t m n → (v : RsyncUri) (p : List ℕ)
    → relative (uri_of t) v ≡ Some p → is_identical (uri_of t) v ≡ (length p == 0)
unfolding relative is_identical uri_of
identical-test-some t m n c v p h = by_module (same_module (uri_of t) v) h where
  some_same : (x y : List ℕ) → Some x ≡ Some y → x ≡ y
  some_same x y k = cc

  by_left : (o : Option (List (List ℕ))) → strip_prefix (segments (path_of t)) v.segments ≡ o
      → option_map (λ left. path_text left (is_dir (path_of t))) o ≡ Some p
      → pointwise bytes_eq (segments (path_of t)) v.segments ≡ (length p == 0)
  by_left None e k = cc
  by_left (Some left) e k =
      let is : segments (path_of t) ≡ v.segments ++ left = strip_prefix-is (segments (path_of t)) v.segments left e in
      let good : names_refusal left ≡ None = names_refusal-back v.segments left
      (sym (ap names_refusal is) ∙ path-names t m n c (head-of t m n c)) in
      names-test (segments (path_of t)) v.segments left (is_dir (path_of t)) p is good (sym (some_same _ _ k))

  by_module : (b : Bool)
      → cond b (option_map (λ left. path_text left (is_dir (path_of t)))
      (strip_prefix (segments (path_of t)) v.segments)) None ≡ Some p
      → (b && pointwise bytes_eq (segments (path_of t)) v.segments) ≡ (length p == 0)
  by_module false k = cc
  by_module true k = by_left _ refl k

-- ---- the way back

-- the lengths of the parts, by the two places
pub cut-lengths : (t : List ℕ) (m p : ℕ) → IsCut t m p
    → (length (authority_of t) ≡ m - 9) × (length (module_name_of t) ≡ p - m - 1)
cut-lengths t m p c =
    let facts = cut-facts t m p c in
    let l : length (drop 8 t) ≡ length t - 8 = length-drop 8 t in
    let k : length (drop m t) ≡ length t - m = length-drop m t in (
      ap length facts.authority_is ∙ length-take-le (m - 9) (drop 8 t)
          (omega (arith, facts.fits, facts.module_name, facts.authority)),
      ap length facts.module_name_is ∙ length-take-le (p - m - 1) (drop m t)
          (omega (arith, facts.fits, facts.module_name, facts.authority)),
    )

same-heads : (u v : List ℕ) (m n k j : ℕ) → IsCut u m n → IsCut v k j → WayParts u v → n ≡ j
same-heads u v m n k j c d w =
    let cu = cut-lengths u m n c in
    let cv = cut-lengths v k j d in
    let fu = cut-facts u m n c in
    let fv = cut-facts v k j d in
    let a : length (authority_of u) ≡ length (authority_of v) = sym (length-lowercase (authority_of u)) ∙ ap length
    w.authority ∙ length-lowercase (authority_of v) in
    let b : length (module_name_of u) ≡ length (module_name_of v) = ap length w.module_name in
    omega (arith, cu.0, cu.1, cv.0, cv.1, fu.authority, fu.module_name, fv.authority, fv.module_name)

refusal-by : (v p : List ℕ) (size : ℕ) → 0 < length p → list_all is_uri_byte p ≡ true
    → names_refusal (segments p) ≡ None → length p ≤ size → length (joined v p) ≡ size
    → join_refusal v p ≡ cond (nat_lt size 3072) None (Some LongUri)
unfolding path_refusal
refusal-by v p size l good names w e = by_size (nat_lt size 3072) refl where
  path_short : length p < 3072 → path_refusal p ≡ None
  path_short s = let short : nat_le 3072 (length p) ≡ false = grind (arith, nat_tests) in ap
      (λ b. cond b (Some LongUri) (names_refusal (segments p))) short ∙ names

  path_long : nat_le 3072 (length p) ≡ true → path_refusal p ≡ Some LongUri
  path_long s = ap (λ b. cond b (Some LongUri) (names_refusal (segments p))) s

  by_path : (b : Bool) → nat_le 3072 (length p) ≡ b → 3072 ≤ size → join_refusal v p ≡ Some LongUri
  by_path true s k = join-refuses-path v p LongUri l good (path_long s)
  by_path false s k = join-refuses-length v p l good (path_short (grind (arith, nat_tests))) (omega (arith, e))

  by_size : (b : Bool) → nat_lt size 3072 ≡ b → join_refusal v p ≡ cond b None (Some LongUri)
  by_size true s = let k : size < 3072 = grind (arith, nat_tests) in join-refuses-nothing v p l good
      (path_short (omega arith)) (omega (arith, e))
  by_size false s = let k : 3072 ≤ size = grind (arith, nat_tests) in by_path (nat_le 3072 (length p)) refl k

pub way-back : (u v : List ℕ) (m n k j : ℕ) → IsCut u m n → IsCut v k j → (p : List ℕ) → 0 < length p
    → relative (uri_of u) (uri_of v) ≡ Some p → IsWayBack u v p
way-back u v m n k j c d p l h =
    let w = way-parts u v m n k j c d p l h in
    let hu = head-of u m n c in
    let hv = head-of v k j d in
    let fu = cut-facts u m n c in
    let characters : list_all is_uri_byte p ≡ true =
    second_so (list_all is_uri_byte (with_slash (path_of v))) _
    (sym (list_all-append is_uri_byte (with_slash (path_of v)) p) ∙ ap (list_all is_uri_byte) w.path ∙ fu.path_passes)
    in
    let names : names_refusal (segments p) ≡ None =
    names_refusal-back (segments (path_of v)) (segments p)
    (sym (ap names_refusal (segments-joined (path_of v) p)) ∙ ap (λ x. names_refusal (segments x)) w.path ∙ path-names u
    m n c hu) in
    let starts : n ≡ j = same-heads u v m n k j c d w.parts in
    let text : joined v p ≡ (hv.head ++ 47 ∷ []) ++ path_of u = joined-filled v p l ∙ joined-text v p k j hv ∙ ap
    (λ y. (hv.head ++ 47 ∷ []) ++ y) w.path in
    let size : length (joined v p) ≡ length u =
    ap length text ∙ length-append (hv.head ++ 47 ∷ []) (path_of u) ∙ omega (
      arith,
      length-append hv.head (47 ∷ []),
      length-append hu.head (47 ∷ []),
      length-append (hu.head ++ 47 ∷ [])
          (path_of u),
      hv.long,
      hu.long,
      starts,
      ap length hu.is,
    ) in
    let part : length p ≤ length u = omega
    (arith, ap length w.path, length-append (with_slash (path_of v)) p, ap length fu.path_is, length-drop n u) in
    record {
      refusal = refusal-by v p (length u) l characters names part size;
      uri = joined-relative u v m n k j c d p l h;
    }
