-- Octets that are a URI's text but for the case of its scheme and its authority.
use Rattle.std.proofs.Common.{◌≡◌, ℕ, ◌+◌, Bool, true, false, cond, not, ◌&&◌, List, ◌∷◌, ◌++◌, length, take, drop}
use Rattle.std.proofs.Common.{codes, Option, Some, None, bytes_eq, sym, refl, ap, ◌∙◌, subst, arith}
use Rattle.std.specs.List.{list_all, list_any, position_or_len, after_first}
use Rattle.std.specs.Option.{option_or}
use Rattle.std.specs.Char.{to_ascii_lowercase}
use Rattle.std.specs.Cmp.{first_so, second_so, both_ways}
use Rattle.std.proofs.lemmas.List.{length-take-le, append_assoc, take-append-drop, length-append, map-append}
use Rattle.std.proofs.Math.Seq.{take-append_seam, drop-append_seam}
use Rattle.std.proofs.lemmas.Slice.Eq.{bytes_eq-Decides}
use Rattle.rpki_text.specs.declared.uri.error.Error.{Error}
use Rattle.rpki_text.specs.declared.uri.error.Error.TheVariants.{InvalidCharacters, BadScheme, BadUri}
use Rattle.rpki_text.specs.UriText.{is_uri_byte, lowercase, same_text}
use Rattle.rpki_text.specs.Segments.{is_slash}
use Rattle.rpki_text.specs.SegmentLaws.{path_text-segments}
use Rattle.rpki_text.specs.RsyncText.{IsCut, IsRsync, authority_of, module_name_of, path_of, uri_of, same_uri}
use Rattle.rpki_text.specs.RsyncText.{path_refusal, rsync_refusal, eq_rsync_bytes, has_scheme, has_module}
use Rattle.rpki_text.specs.SameUriLaws.{same_uri-texts}
use Rattle.rpki_text.proofs.UriLaws.{path-passes}
use Rattle.rpki_text.proofs.LawLaws.{spelled}
use Rattle.rpki_text.proofs.PartLaws.{read-parts, ReadParts, slash-lowercase, before-first-no_slash}
use Rattle.rpki_text.proofs.TextLaws.{SameText, same_text-parts, length-lowercase}

-- a text that is not rejected has the form, and is cut at its two places
passes-form : (t : List ℕ) → rsync_refusal t ≡ None → IsRsync t
unfolding rsync_refusal
passes-form t h = by_cases (list_all is_uri_byte t) refl (has_scheme t) refl (path_refusal (drop 8 t)) refl
    (has_module t) refl h where
      by_cases : (a : Bool) → list_all is_uri_byte t ≡ a → (b : Bool) → has_scheme t ≡ b → (o : Option Error)
          → path_refusal (drop 8 t) ≡ o → (d : Bool) → has_module t ≡ d
          → cond (not a) (Some InvalidCharacters)
          (cond (not b) (Some BadScheme) (option_or o (cond d None (Some BadUri))))
          ≡ None → IsRsync t
      by_cases false ea b eb o eo d ed k = cc
      by_cases true ea false eb o eo d ed k = cc
      by_cases true ea true eb (Some e) eo d ed k = cc
      by_cases true ea true eb None eo false ed k = cc
      by_cases true ea true eb None eo true ed k =
          record { characters = ea; scheme = eb; names = path-passes (drop 8 t) eo; full = ed }

pub passes-cut : (t : List ℕ) → rsync_refusal t ≡ None → (m : ℕ) × (p : ℕ) × IsCut t m p
passes-cut t h = (
  9 + position_or_len is_slash (drop 8 t),
  9 + position_or_len is_slash (drop 8 t) + position_or_len is_slash (drop (9 + position_or_len is_slash (drop 8 t)) t)
      + 1,
  record { form = passes-form t h; module_starts = refl; path_starts = refl },
)

-- the scheme and the authority, and what follows them
pub following : List ℕ → List ℕ
following t = 47 ∷ (module_name_of t ++ 47 ∷ path_of t)

record Front (t : List ℕ) : Type 0 where
  front : List ℕ
  lower : lowercase front ≡ codes "rsync://" ++ lowercase (authority_of t)
  is : t ≡ front ++ following t

regroup : (s a m p : List ℕ) → ((((s ++ a) ++ codes "/") ++ m) ++ codes "/") ++ p ≡ (s ++ a) ++ 47 ∷ (m ++ 47 ∷ p)
regroup s a m p = simp append_assoc refl

front-of : (t : List ℕ) (m p : ℕ) → IsCut t m p → Front t
unfolding uri_of following
front-of t m p c =
    let s = spelled t m p c in
    record {
      front = s.scheme ++ s.authority;
      lower = map-append to_ascii_lowercase s.scheme s.authority ∙ ap (λ x. x ++ lowercase s.authority) s.any_case.0 ∙
          ap (λ x. codes "rsync://" ++ x) s.any_case.1;
      is = s.is ∙ ap (λ path. ((((s.scheme ++ s.authority) ++ codes "/") ++ module_name_of t) ++ codes "/") ++ path)
          (path_text-segments (path_of t)) ∙ regroup s.scheme s.authority (module_name_of t) (path_of t);
    }

front-long : (t : List ℕ) (f : Front t) → length f.front ≡ 8 + length (authority_of t)
front-long t f = sym (length-lowercase f.front) ∙ ap length f.lower ∙ omega
    (arith, length-append (codes "rsync://") (lowercase (authority_of t)), length-lowercase (authority_of t))

front-take : (t : List ℕ) (f : Front t) (n : ℕ) → n ≡ length f.front → take n t ≡ f.front
front-take t f n e =
    ap (take n) f.is ∙ ap (λ k. take k (f.front ++ following t)) e ∙ take-append_seam f.front (following t)

front-drop : (t : List ℕ) (f : Front t) (n : ℕ) → n ≡ length f.front → drop n t ≡ following t
front-drop t f n e =
    ap (drop n) f.is ∙ ap (λ k. drop k (f.front ++ following t)) e ∙ drop-append_seam f.front (following t)

and-true : (x y : Bool) → x ≡ true → y ≡ true → (x && y) ≡ true
and-true true y h k = k
and-true false y h k = h

authority-free : (t : List ℕ) → list_any is_slash (lowercase (authority_of t)) ≡ false
unfolding authority_of
authority-free t = slash-lowercase (authority_of t) ∙ before-first-no_slash (drop 8 t)

module-free : (t : List ℕ) → list_any is_slash (module_name_of t) ≡ false
unfolding module_name_of
module-free t = before-first-no_slash (after_first is_slash (drop 8 t))

-- the parts of octets whose front is spelled in another case
record OtherParts (t other : List ℕ) : Type 0 where
  authority : lowercase (authority_of t) ≡ lowercase (authority_of other)
  module_name : module_name_of t ≡ module_name_of other
  path : path_of t ≡ path_of other

other-front : (t other : List ℕ) (f : Front t) → SameText (length f.front) t other → OtherParts t other
unfolding following
other-front t other f s =
    let g : List ℕ = take (length f.front) other in
    let size : length g ≡ length f.front = sym (length-lowercase g) ∙ sym (ap length s.front) ∙ ap
    (λ x. length (lowercase x)) (front-take t f _ refl) ∙ length-lowercase f.front in
    let eight : length (take 8 g) ≡ 8 = length-take-le 8 g (omega (arith, size, front-long t f)) in
    let both : g ≡ take 8 g ++ drop 8 g = sym (take-append-drop 8 g) in
    let low : lowercase g ≡ codes "rsync://" ++ lowercase (authority_of t) = sym s.front ∙ ap lowercase
    (front-take t f _ refl) ∙ f.lower in
    let cut : lowercase (take 8 g) ++ lowercase (drop 8 g) ≡ codes "rsync://" ++ lowercase (authority_of t) = sym
    (map-append to_ascii_lowercase (take 8 g) (drop 8 g)) ∙ ap lowercase (sym both) ∙ low in
    let l8 : length (lowercase (take 8 g)) ≡ 8 = length-lowercase (take 8 g) ∙ eight in
    let tail : lowercase (drop 8 g) ≡ lowercase (authority_of t) =
    sym (ap (λ k. drop k (lowercase (take 8 g) ++ lowercase (drop 8 g))) (sym l8) ∙ drop-append_seam
    (lowercase (take 8 g)) (lowercase (drop 8 g))) ∙ ap (drop 8) cut in
    let free : list_any is_slash (drop 8 g) ≡ false = sym (slash-lowercase (drop 8 g)) ∙ ap (list_any is_slash) tail ∙
    authority-free t in
    let whole : other ≡ ((((take 8 g ++ drop 8 g) ++ codes "/") ++ module_name_of t) ++ codes "/") ++ path_of t =
    sym (take-append-drop (length f.front) other) ∙ ap (λ x. g ++ x) (sym s.back ∙ front-drop t f _ refl) ∙ ap
    (λ x. x ++ following t) both ∙ sym (regroup (take 8 g) (drop 8 g) (module_name_of t) (path_of t)) in
    let read = subst (λ (x : List ℕ). ReadParts x (drop 8 g) (module_name_of t) (path_of t)) (sym whole)
    (read-parts (take 8 g) (drop 8 g) (module_name_of t) (path_of t) eight free (module-free t)) in
    record {
      authority = sym tail ∙ sym (ap lowercase read.authority_is);
      module_name = sym read.module_name_is;
      path = sym read.path_is;
    }

from-parts : (t other : List ℕ) → OtherParts t other → same_uri (uri_of t) (uri_of other) ≡ true
from-parts t other k =
    sym (same_uri-texts t other) ∙ and-true _ _
    (and-true _ _ ((bytes_eq-Decides _ _).1 k.authority) ((bytes_eq-Decides _ _).1 k.module_name))
    ((bytes_eq-Decides _ _).1 k.path)

to-parts : (t other : List ℕ) → same_uri (uri_of t) (uri_of other) ≡ true → OtherParts t other
to-parts t other h =
    let all = same_uri-texts t other ∙ h in
    let front = first_so _ _ all in
    record {
      authority = (bytes_eq-Decides _ _).0 (first_so _ _ front);
      module_name = (bytes_eq-Decides _ _).0
          (second_so (bytes_eq (lowercase (authority_of t)) (lowercase (authority_of other))) _ front);
      path = (bytes_eq-Decides _ _).0 (second_so
          (bytes_eq (lowercase (authority_of t)) (lowercase (authority_of other)) && bytes_eq (module_name_of t)
          (module_name_of other)) _ all);
    }

same-fronts : (t other : List ℕ) (f : Front t) (g : Front other) → OtherParts t other
    → same_text (length f.front) t other ≡ true
unfolding same_text following
same-fronts t other f g k =
    let lower : lowercase f.front ≡ lowercase g.front = f.lower ∙ ap (λ x. codes "rsync://" ++ x) k.authority ∙ sym
    g.lower in
    let long : length f.front ≡ length g.front = sym (length-lowercase f.front) ∙ ap length lower ∙ length-lowercase
    g.front in
    let rest : following t ≡ following other = ap (λ m. 47 ∷ (m ++ 47 ∷ path_of t)) k.module_name ∙ ap
    (λ p. 47 ∷ (module_name_of other ++ 47 ∷ p)) k.path in
    and-true _ _ ((bytes_eq-Decides _ _).1
    (ap lowercase (front-take t f _ refl) ∙ lower ∙ sym (ap lowercase (front-take other g _ long))))
    ((bytes_eq-Decides _ _).1 (front-drop t f _ refl ∙ rest ∙ sym (front-drop other g _ long)))

pub eq_bytes-uri : (t other : List ℕ) (m p : ℕ) → IsCut t m p → rsync_refusal other ≡ None
    → eq_rsync_bytes t other ≡ same_uri (uri_of t) (uri_of other)
unfolding eq_rsync_bytes
eq_bytes-uri t other m p c h =
    let cut = passes-cut other h in
    let f = front-of t m p c in
    let g = front-of other cut.0 cut.1 cut.2 in
    ap (λ n. same_text n t other) (sym (front-long t f))
    ∙ both_ways _ _ (λ k. from-parts t other (other-front t other f (same_text-parts (length f.front) t other k)))
    (λ k. same-fronts t other f g (to-parts t other k))
