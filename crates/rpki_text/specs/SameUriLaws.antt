-- The same URI, by its texts: what the laws of equality and of the hash rest on.
use Rattle.std.specs.Prelude.{◌≡◌, ℕ, Bool, true, false, ◌&&◌, List, ◌++◌, bytes_eq, codes, flat_map}
use Rattle.std.proofs.Common.{sym, ap, ◌∙◌}
use Rattle.std.specs.Ordering.{on}
use Rattle.std.specs.Bool.{Decides}
use Rattle.std.specs.Cmp.{booleans_Decides, first_so, second_so, both_ways, IsEquivalence, IsPartialEquivalence}
use Rattle.std.specs.Cmp.{on_equiv, and_equiv, nat_eq_equiv, bool_eq_equiv, partial_equiv_from_equiv}
use Rattle.std.specs.Cmp.Lexicographic.{pointwise, pointwise_decides, lists_equiv}
use Rattle.std.specs.Hash as fed
use mathlib.Core.Bool.{beq}
use Rattle.std.proofs.lemmas.Slice.Eq.{bytes_eq-Decides}
use Rattle.rpki_text.specs.Segments.{segments, is_dir, path_text}
use Rattle.rpki_text.specs.UriText.{lowercase}
use Rattle.rpki_text.specs.RsyncText.{authority_of, module_name_of, path_of, RsyncUri, uri_of, same_uri, hashed}
use Rattle.rpki_text.specs.SegmentLaws.{path_text-segments}

-- a path is the same exactly where its segments and its mark are
pub same-path : (a b : List ℕ) → bytes_eq a b ≡ (pointwise bytes_eq (segments a) (segments b) && beq (is_dir a)
    (is_dir b))
same-path a b = both_ways _ _ forth back where
  names : Decides (pointwise bytes_eq (segments a) (segments b)) (segments a ≡ segments b)
  names = pointwise_decides bytes_eq-Decides (segments a) (segments b)

  marks : Decides (beq (is_dir a) (is_dir b)) (is_dir a ≡ is_dir b)
  marks = booleans_Decides (is_dir a) (is_dir b)

  and_true : (x y : Bool) → x ≡ true → y ≡ true → (x && y) ≡ true
  and_true true y h k = k
  and_true false y h k = h

  forth : bytes_eq a b ≡ true → (pointwise bytes_eq (segments a) (segments b) && beq (is_dir a) (is_dir b)) ≡ true
  forth h = let e : a ≡ b = (bytes_eq-Decides a b).0 h in and_true _ _ (names.1 (ap segments e)) (marks.1 (ap is_dir e))

  back : (pointwise bytes_eq (segments a) (segments b) && beq (is_dir a) (is_dir b)) ≡ true → bytes_eq a b ≡ true
  back h =
      let s : segments a ≡ segments b = names.0 (first_so _ _ h) in
      let d : is_dir a ≡ is_dir b = marks.0 (second_so (pointwise bytes_eq (segments a) (segments b)) _ h) in
      (bytes_eq-Decides a b).1 (sym (path_text-segments a) ∙ ap (λ n. path_text n (is_dir a)) s
      ∙ ap (path_text (segments b)) d ∙ path_text-segments b)

-- what the code compares
pub same_uri-texts : (a b : List ℕ) → ((bytes_eq (lowercase (authority_of a)) (lowercase (authority_of b)) && bytes_eq
    (module_name_of a) (module_name_of b)) && bytes_eq (path_of a) (path_of b)) ≡ same_uri (uri_of a) (uri_of b)
unfolding uri_of
same_uri-texts a b = ap (λ v. (bytes_eq (lowercase (authority_of a)) (lowercase (authority_of b)) && bytes_eq
    (module_name_of a) (module_name_of b)) && v) (same-path (path_of a) (path_of b))

-- the same URI is hashed alike
pub same_uri-hashed : (a b : List ℕ) → same_uri (uri_of a) (uri_of b) ≡ true → hashed a ≡ hashed b
same_uri-hashed a b h =
    let all = same_uri-texts a b ∙ h in
    let front = first_so _ _ all in
    let e1 : lowercase (authority_of a) ≡ lowercase (authority_of b) = (bytes_eq-Decides _ _).0 (first_so _ _ front) in
    let e2 : module_name_of a ≡ module_name_of b = (bytes_eq-Decides _ _).0
    (second_so (bytes_eq (lowercase (authority_of a)) (lowercase (authority_of b))) _ front) in
    let e3 : path_of a ≡ path_of b = (bytes_eq-Decides _ _).0
    (second_so (bytes_eq (lowercase (authority_of a)) (lowercase (authority_of b)) && bytes_eq (module_name_of a)
    (module_name_of b)) _ all) in
    ap (λ x. flat_map fed.u8 (codes "rsync://" ++ x ++ codes "/")
    ++ fed.slice fed.u8 (module_name_of a ++ codes "/" ++ path_of a)) e1
    ∙ ap (λ x. flat_map fed.u8 (codes "rsync://" ++ lowercase (authority_of b) ++ codes "/")
    ++ fed.slice fed.u8 (x ++ codes "/" ++ path_of a)) e2
    ∙ ap (λ x. flat_map fed.u8 (codes "rsync://" ++ lowercase (authority_of b) ++ codes "/")
    ++ fed.slice fed.u8 (module_name_of b ++ codes "/" ++ x)) e3

-- equality is an equivalence
pub same_uri-equiv : IsEquivalence same_uri
same_uri-equiv =
    let text : (part : RsyncUri → List ℕ) → IsEquivalence (on part bytes_eq) =
    λ part. on_equiv part (lists_equiv nat_eq_equiv) in
    and_equiv (and_equiv (text (λ u. u.authority)) (text (λ u. u.module_name)))
    (and_equiv (on_equiv (λ (u : RsyncUri). u.segments) (lists_equiv (lists_equiv nat_eq_equiv)))
    (on_equiv (λ (u : RsyncUri). u.is_dir) bool_eq_equiv))

pub texts_equiv : IsEquivalence (on uri_of same_uri)
texts_equiv = on_equiv uri_of same_uri-equiv

pub texts_per : IsPartialEquivalence (on uri_of same_uri)
texts_per = partial_equiv_from_equiv texts_equiv
