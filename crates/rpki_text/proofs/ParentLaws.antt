-- Where one URI is a parent of another.
use Rattle.std.proofs.Common.{◌≡◌, ℕ, ◌+◌, ◌<◌, Bool, true, false, cond, not, ◌&&◌, ◌==◌, nat_lt, List, [], ◌∷◌, ◌++◌}
use Rattle.std.proofs.Common.{length, Option, Some, None, bytes_eq, sym, refl, ap, ◌∙◌, arith}
use Rattle.std.specs.List.{join_with_byte}
use Rattle.std.specs.Option.{option_map}
use Rattle.std.proofs.lemmas.List.{length-append}
use Rattle.std.proofs.lemmas.Bool.Decides.{nat_tests}
use Rattle.rpki_text.specs.Segments.{segments, is_dir, path_text}
use Rattle.rpki_text.specs.UriText.{lowercase}
use Rattle.rpki_text.specs.RsyncText.{authority_of, module_name_of, path_of, uri_of, relative, path_left, strip_prefix}
use Rattle.rpki_text.specs.RsyncText.{names_refusal, is_parent, IsCut}
use Rattle.rpki_text.proofs.SegmentLaws.{path_text-none}
use Rattle.rpki_text.proofs.JoinLaws.{names_refusal-back, path-names, head-of}
use Rattle.rpki_text.proofs.RelativeLaws.{relative-other-module}
use Rattle.rpki_text.proofs.BelowLaws.{relative-path_left, strip_prefix-is}

join-some : (b : ℕ) (bs : List ℕ) (ns : List (List ℕ)) → 0 < length (join_with_byte 47 ((b ∷ bs) ∷ ns))
join-some b bs [] = omega arith
join-some b bs (n ∷ ns) = omega arith

-- good names make a path that is not empty
pub path_text-some : (n : List ℕ) (ns : List (List ℕ)) (d : Bool) → names_refusal (n ∷ ns) ≡ None
    → 0 < length (path_text (n ∷ ns) d)
unfolding path_text
path_text-some [] ns d h = cc
path_text-some (b ∷ bs) ns d h = join-some b bs (ns ++ cond d ([] ∷ []) [])

longer-test : (us left : List (List ℕ)) (d : Bool) (p : List ℕ) → names_refusal left ≡ None → p ≡ path_text left d
    → nat_lt (length us) (length (us ++ left)) ≡ not (length p == 0)
longer-test us [] d p h e =
    let none : length p ≡ 0 = ap length (e ∙ path_text-none d) in let l : length (us ++ []) ≡ length us + 0 =
    length-append us [] in grind (arith, nat_tests)
longer-test us (n ∷ ns) d p h e =
    let some : 0 < length p = rw e (path_text-some n ns d h) in let l : length (us ++ n ∷ ns) ≡ length us + length
    (n ∷ ns) = length-append us (n ∷ ns) in grind (arith, nat_tests)

pub parent-test-none : (u v : List ℕ) → relative (uri_of v) (uri_of u) ≡ None → is_parent (uri_of u) (uri_of v) ≡ false
unfolding is_parent
parent-test-none u v h = rw h refl

pub parent-test-some : (u v : List ℕ) (m n : ℕ) → IsCut v m n → (p : List ℕ) → relative (uri_of v) (uri_of u) ≡ Some p
    → is_parent (uri_of u) (uri_of v) ≡ not (length p == 0)
unfolding is_parent uri_of path_left
parent-test-some u v m n c p h = rw h (by_module _ refl) where
  test : Bool
  test = bytes_eq (lowercase (authority_of v)) (lowercase (authority_of u)) && bytes_eq (module_name_of v)
      (module_name_of u)

  by_left : (o : Option (List (List ℕ))) → strip_prefix (segments (path_of v)) (segments (path_of u)) ≡ o
      → option_map (λ left. path_text left (is_dir (path_of v))) o ≡ Some p
      → nat_lt (length (segments (path_of u))) (length (segments (path_of v))) ≡ not (length p == 0)
  by_left None e k = cc
  by_left (Some left) e k =
      let is : segments (path_of v) ≡ segments (path_of u) ++ left = strip_prefix-is (segments (path_of v))
      (segments (path_of u)) left e in
      let good : names_refusal left ≡ None = names_refusal-back (segments (path_of u)) left
      (sym (ap names_refusal is) ∙ path-names v m n c (head-of v m n c)) in
      let text : p ≡ path_text left (is_dir (path_of v)) = cc in
      ap (λ s. nat_lt (length (segments (path_of u))) (length s)) is ∙ longer-test (segments (path_of u)) left
      (is_dir (path_of v)) p good text

  by_module : (b : Bool) → test ≡ b
      → nat_lt (length (segments (path_of u))) (length (segments (path_of v))) ≡ not (length p == 0)
  by_module false e = let none : relative (uri_of v) (uri_of u) ≡ None = relative-other-module v u e in cc
  by_module true e = by_left _ refl (sym (relative-path_left v u e) ∙ h)
