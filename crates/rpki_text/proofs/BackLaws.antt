-- A path that `relative_to` returns leads back when it is joined.
use Rattle.std.proofs.Common.{◌≡◌, ℕ, ◌<◌, Bool, true, false, ◌&&◌, List, [], ◌∷◌, ◌++◌, length, Some, None, bytes_eq}
use Rattle.std.proofs.Common.{sym, refl, ap, ◌∙◌, inl, inr, arith}
use Rattle.std.proofs.lemmas.List.{append_assoc}
use Rattle.std.proofs.lemmas.Slice.Eq.{bytes_eq-Decides}
use Rattle.std.specs.Cmp.{first_so, second_so}
use Rattle.rpki_text.specs.Segments.{pieces, segments, is_dir, with_slash}
use Rattle.rpki_text.specs.UriText.{lowercase}
use Rattle.rpki_text.specs.RsyncText.{authority_of, module_name_of, path_of, uri_of, relative, path_left, joined}
use Rattle.rpki_text.specs.RsyncText.{names_refusal, IsCut}
use Rattle.rpki_text.proofs.SegmentLaws.{segments-empty, is_dir-empty, is_dir-push-slash}
use Rattle.rpki_text.proofs.CutLaws.{cut-facts}
use Rattle.rpki_text.proofs.JoinLaws.{SlashCases, slash-cases, with_slash-dir, with_slash-open, segments-before-slash}
use Rattle.rpki_text.proofs.JoinLaws.{open-path, path-names, head-of, cut-changed, uri_of-changed, joined-text}
use Rattle.rpki_text.proofs.JoinLaws.{joined-filled}
use Rattle.rpki_text.proofs.RelativeLaws.{relative-other-module}
use Rattle.rpki_text.proofs.BelowLaws.{AtOrBelow, relative-path_left, path_left-root, path_left-same, path_left-below}
use Rattle.rpki_text.proofs.BelowLaws.{path_left-some, named-open}

-- below a base that has no slash last, the path is the base, a slash and the rest
below-open : (path b p : List ℕ) → is_dir b ≡ false → 0 < length p → path_left path (pieces b) ≡ Some p
    → path ≡ (b ++ 47 ∷ []) ++ p
below-open path b p o l h = by_cases (path_left-some path b p h) where
  by_cases : AtOrBelow path b → path ≡ (b ++ 47 ∷ []) ++ p
  by_cases (inl e) = let same : path_left path (pieces b) ≡ Some [] = path_left-same path b o e in let none : p ≡ [] =
      cc in absurd (omega (arith, ap length none))
  by_cases (inr (r, e)) =
      let below : path_left path (pieces b) ≡ Some r = path_left-below path b r e in
      let is : r ≡ p = cc in
      e ∙ sym (append_assoc b (47 ∷ []) r) ∙ ap (λ x. (b ++ 47 ∷ []) ++ x) is

-- the rest of a path after another, put after it with a slash between, is that path
pub path-back : (path base p : List ℕ) → names_refusal (segments base) ≡ None → 0 < length p
    → path_left path (segments base) ≡ Some p → with_slash base ++ p ≡ path
path-back path base p good l h = by_cases (slash-cases base) where
  by_cases : SlashCases base → with_slash base ++ p ≡ path
  by_cases (inl o) =
      ap (λ s. s ++ p) (with_slash-open base o) ∙ sym
      (below-open path base p o l (ap (path_left path) (sym (open-path base o)) ∙ h))
  by_cases (inr (inl e)) =
      let none : segments base ≡ [] = ap segments e ∙ segments-empty in
      let root : path_left path (segments base) ≡ Some path = ap (path_left path) none ∙ path_left-root path in
      let is : p ≡ path = cc in
      ap (λ s. s ++ p) (ap with_slash e ∙ with_slash-dir [] is_dir-empty) ∙ is
  by_cases (inr (inr (f, e))) =
      let names : segments base ≡ pieces f = ap segments e ∙ segments-before-slash f in
      let o : is_dir f ≡ false = named-open f (ap names_refusal (sym names) ∙ good) in
      ap (λ s. s ++ p) (ap with_slash e ∙ with_slash-dir (f ++ 47 ∷ []) (is_dir-push-slash f)) ∙ sym
      (below-open path f p o l (ap (path_left path) (sym names) ∙ h))

-- what the path from one URI to another says of the two
pub record WayParts (u v : List ℕ) : Type 0 where
  pub authority : lowercase (authority_of u) ≡ lowercase (authority_of v)
  pub module_name : module_name_of u ≡ module_name_of v

pub record Way (u v p : List ℕ) : Type 0 where
  pub parts : WayParts u v
  pub path : with_slash (path_of v) ++ p ≡ path_of u

pub way-parts : (u v : List ℕ) (m n k j : ℕ) → IsCut u m n → IsCut v k j → (p : List ℕ) → 0 < length p
    → relative (uri_of u) (uri_of v) ≡ Some p → Way u v p
way-parts u v m n k j c d p l h = by_cases _ refl where
  test : Bool
  test = bytes_eq (lowercase (authority_of u)) (lowercase (authority_of v)) && bytes_eq (module_name_of u)
      (module_name_of v)

  by_cases : (b : Bool) → test ≡ b → Way u v p
  by_cases false e = let none : relative (uri_of u) (uri_of v) ≡ None = relative-other-module u v e in cc
  by_cases true e =
      let hv = head-of v k j d in
      let left : path_left (path_of u) (segments (path_of v)) ≡ Some p = sym (relative-path_left u v e) ∙ h in
      record {
        parts = record {
          authority = (bytes_eq-Decides _ _).0 (first_so _ _ e);
          module_name = (bytes_eq-Decides _ _).0
              (second_so (bytes_eq (lowercase (authority_of u)) (lowercase (authority_of v))) _ e);
        };
        path = path-back (path_of u) (path_of v) p (path-names v k j d hv) l left;
      }

-- the same for two URIs
pub joined-relative : (u v : List ℕ) (m n k j : ℕ) → IsCut u m n → IsCut v k j → (p : List ℕ) → 0 < length p
    → relative (uri_of u) (uri_of v) ≡ Some p → uri_of (joined v p) ≡ uri_of u
unfolding uri_of
joined-relative u v m n k j c d p l h =
    let w = way-parts u v m n k j c d p l h in
    let hu = head-of u m n c in
    let hv = head-of v k j d in
    let facts = cut-facts u m n c in
    let text : joined v p ≡ (hv.head ++ 47 ∷ []) ++ path_of u = joined-filled v p l ∙ joined-text v p k j hv ∙ ap
    (λ y. (hv.head ++ 47 ∷ []) ++ y) w.path in
    let cut = cut-changed v k j d hv (path_of u) facts.path_passes (path-names u m n c hu) in
    ap uri_of text ∙ uri_of-changed v k j d hv (path_of u) cut ∙ rw (sym w.parts.authority, sym w.parts.module_name)
    refl
