-- What equality of URIs says.
use Rattle.std.proofs.Common.{◌≡◌, ℕ, Bool, true, false, ◌&&◌, List, [], ◌++◌, drop, codes, bytes_eq, sym, refl, ap}
use Rattle.std.proofs.Common.{◌∙◌}
use Rattle.std.specs.List.{after_first}
use Rattle.std.specs.Cmp.{first_so, second_so, both_ways, booleans_Decides}
use Rattle.std.specs.Cmp.Lexicographic.{pointwise, pointwise_decides}
use Rattle.std.proofs.lemmas.Slice.Eq.{bytes_eq-Decides}
use Rattle.rpki_text.specs.UriText.{lowercase}
use Rattle.rpki_text.specs.Segments.{is_slash}
use Rattle.rpki_text.specs.RsyncText.{authority_of, module_name_of, path_of, RsyncUri, uri_of, same_uri, parent_uri}
use Rattle.rpki_text.specs.RsyncText.{canonical_module_of}
use Rattle.rpki_text.specs.SameUriLaws.{same_uri-equiv, same_uri-texts}
use Rattle.rpki_text.proofs.PartLaws.{read-parts, ReadParts, slash-lowercase, before-first-no_slash}

-- the four parts of two equal URIs
pub same-parts : (u v : RsyncUri) → same_uri u v ≡ true → u ≡ v
same-parts u v h =
    let front = first_so (bytes_eq u.authority v.authority && bytes_eq u.module_name v.module_name) _ h in
    let back = second_so (bytes_eq u.authority v.authority && bytes_eq u.module_name v.module_name) _ h in
    let e1 : u.authority ≡ v.authority = (bytes_eq-Decides _ _).0 (first_so (bytes_eq u.authority v.authority) _ front)
    in
    let e2 : u.module_name ≡ v.module_name = (bytes_eq-Decides _ _).0
    (second_so (bytes_eq u.authority v.authority) _ front) in
    let e3 : u.segments ≡ v.segments = (pointwise_decides bytes_eq-Decides u.segments v.segments).0
    (first_so (pointwise bytes_eq u.segments v.segments) _ back) in
    let e4 : u.is_dir ≡ v.is_dir = (booleans_Decides u.is_dir v.is_dir).0
    (second_so (pointwise bytes_eq u.segments v.segments) _ back) in
    let made : List ℕ → List ℕ → List (List ℕ) → Bool
    → RsyncUri = λ a m s d. record { authority = a; module_name = m; segments = s; is_dir = d } in
    ap (λ a. made a u.module_name u.segments u.is_dir) e1 ∙ ap (λ m. made v.authority m u.segments u.is_dir) e2
    ∙ ap (λ s. made v.authority v.module_name s u.is_dir) e3 ∙ ap (λ d. made v.authority v.module_name v.segments d) e4

pub same-from-parts : (u v : RsyncUri) → u ≡ v → same_uri u v ≡ true
same-from-parts u v e = ap (same_uri u) (sym e) ∙ same_uri-equiv.refl u

pub equal-parents : (u v : RsyncUri) → same_uri u v ≡ true → parent_uri u ≡ parent_uri v
equal-parents u v h = ap parent_uri (same-parts u v h)

-- the parts of a canonical module
canonical-parts : (t : List ℕ)
    → ReadParts (canonical_module_of t ++ []) (lowercase (authority_of t)) (module_name_of t) []
unfolding canonical_module_of authority_of module_name_of
canonical-parts t =
    read-parts (codes "rsync://") (lowercase (authority_of t)) (module_name_of t) [] refl
    (slash-lowercase (authority_of t) ∙ before-first-no_slash (drop 8 t))
    (before-first-no_slash (after_first is_slash (drop 8 t)))

pub same_module-canonical : (a b : List ℕ)
    → (bytes_eq (lowercase (authority_of a)) (lowercase (authority_of b)) && bytes_eq (module_name_of a)
    (module_name_of b)) ≡ bytes_eq (canonical_module_of a) (canonical_module_of b)
unfolding canonical_module_of
same_module-canonical a b = both_ways _ _ forth back where
  and_true : (x y : Bool) → x ≡ true → y ≡ true → (x && y) ≡ true
  and_true true y h k = k
  and_true false y h k = h

  forth : (bytes_eq (lowercase (authority_of a)) (lowercase (authority_of b)) && bytes_eq (module_name_of a)
      (module_name_of b)) ≡ true → bytes_eq (canonical_module_of a) (canonical_module_of b) ≡ true
  forth h =
      let e1 : lowercase (authority_of a) ≡ lowercase (authority_of b) = (bytes_eq-Decides _ _).0 (first_so _ _ h) in
      let e2 : module_name_of a ≡ module_name_of b = (bytes_eq-Decides _ _).0
      (second_so (bytes_eq (lowercase (authority_of a)) (lowercase (authority_of b))) _ h) in
      (bytes_eq-Decides _ _).1 (ap (λ x. codes "rsync://" ++ x ++ codes "/" ++ module_name_of a ++ codes "/") e1 ∙ ap
      (λ x. codes "rsync://" ++ lowercase (authority_of b) ++ codes "/" ++ x ++ codes "/") e2)

  back : bytes_eq (canonical_module_of a) (canonical_module_of b) ≡ true
      → (bytes_eq (lowercase (authority_of a)) (lowercase (authority_of b)) && bytes_eq (module_name_of a)
      (module_name_of b)) ≡ true
  back h =
      let e : canonical_module_of a ≡ canonical_module_of b = (bytes_eq-Decides _ _).0 h in
      let pa = canonical-parts a in
      let pb = canonical-parts b in
      and_true _ _ ((bytes_eq-Decides _ _).1
      (sym pa.authority_is ∙ ap (λ t. authority_of (t ++ [])) e ∙ pb.authority_is))
      ((bytes_eq-Decides _ _).1 (sym pa.module_name_is ∙ ap (λ t. module_name_of (t ++ [])) e ∙ pb.module_name_is))

pub equal-module_and_path : (a b : List ℕ)
    → same_uri (uri_of a) (uri_of b) ≡ (bytes_eq (canonical_module_of a) (canonical_module_of b) && bytes_eq (path_of a)
    (path_of b))
equal-module_and_path a b =
    sym (same_uri-texts a b) ∙ ap (λ v. v && bytes_eq (path_of a) (path_of b)) (same_module-canonical a b)
