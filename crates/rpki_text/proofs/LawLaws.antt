-- What every URI's text is: it stands for the URI, and it parses again.
use Rattle.std.proofs.Common.{◌≡◌, ℕ, ◌+◌, ◌-◌, ◌<◌, ◌≤◌, false, cond, List, [], ◌∷◌, ◌++◌, length, take, drop, codes}
use Rattle.std.proofs.Common.{nat_le, Some, None, sym, refl, ap, ◌∙◌, arith}
use Rattle.std.specs.List.{position_or_len, before_first, after_first}
use Rattle.std.proofs.lemmas.List.{take-append-drop, append_assoc, length-drop, length-append, length-take-le}
use Rattle.std.proofs.lemmas.List.{map-append}
use Rattle.std.proofs.Math.Seq.{take-append_seam}
use Rattle.std.specs.Char.{to_ascii_lowercase}
use Rattle.std.proofs.lemmas.List.Sums.{split_at_first, passes_at_first}
use Rattle.std.proofs.lemmas.Slice.Eq.{bytes_eq-Decides}
use Rattle.std.proofs.lemmas.Bool.Decides.{nat_tests}
use borrow.Author.Tests.{eqb-true}
use Rattle.rpki_text.specs.declared.uri.error.Error.TheVariants.{LongUri}
use Rattle.rpki_text.specs.SegmentLaws.{path_text-segments}
use Rattle.rpki_text.specs.Segments.{is_slash, segments}
use Rattle.rpki_text.specs.UriText.{lowercase}
use Rattle.rpki_text.specs.RsyncText.{authority_of, module_name_of, path_of, IsRsync, IsCut, uri_of, Spells}
use Rattle.rpki_text.specs.RsyncText.{rsync_refusal, path_refusal, names_refusal}
use Rattle.rpki_text.proofs.UriLaws.{module-places, after-first-drop, refuses-nothing}

-- a list with a slash is what is before it, the slash, and what follows
at-slash : (s : List ℕ) → position_or_len is_slash s < length s
    → s ≡ before_first is_slash s ++ codes "/" ++ after_first is_slash s
at-slash s h =
    split_at_first is_slash s 0 h ∙ ap (λ b. before_first is_slash s ++ (b ∷ after_first is_slash s))
    (eqb-true _ 47 (passes_at_first is_slash s 0 h)) ∙ sym
    (append_assoc (before_first is_slash s) (47 ∷ []) (after_first is_slash s))

regroup : (s b m p : List ℕ)
    → s ++ ((b ++ codes "/") ++ ((m ++ codes "/") ++ p)) ≡ ((((s ++ b) ++ codes "/") ++ m) ++ codes "/") ++ p
regroup s b m p = simp append_assoc

pub spelled : (t : List ℕ) (m p : ℕ) → IsCut t m p → Spells t (uri_of t)
unfolding uri_of authority_of module_name_of path_of
spelled t m p c =
    let a = position_or_len is_slash (drop 8 t) in
    let n = position_or_len is_slash (drop m t) in
    let em : m ≡ 9 + a = c.module_starts in
    let places = module-places t a n refl (ap (λ k. position_or_len is_slash (drop k t)) em) c.form.full in
    let after : after_first is_slash (drop 8 t) ≡ drop m t = after-first-drop 8 t ∙ ap (λ k. drop k t) (omega arith) in
    let one : drop 8 t ≡ before_first is_slash (drop 8 t) ++ codes "/" ++ after_first is_slash (drop 8 t) =
    at-slash (drop 8 t) (omega (arith, length-drop 8 t, places.fits)) in
    let fits : position_or_len is_slash (after_first is_slash (drop 8 t)) < length (after_first is_slash (drop 8 t)) =
    rw after (omega (arith, length-drop m t, places.fits)) in
    let two = at-slash (after_first is_slash (drop 8 t)) fits in
    record {
      scheme = take 8 t;
      authority = before_first is_slash (drop 8 t);
      any_case = ((bytes_eq-Decides _ _).0 c.form.scheme, refl);
      is = rw (path_text-segments (path_of t))
          (sym (take-append-drop 8 t) ∙ ap (λ x. take 8 t ++ x)
          (one ∙ ap (λ x. before_first is_slash (drop 8 t) ++ codes "/" ++ x) two)
          ∙ regroup (take 8 t) (before_first is_slash (drop 8 t))
          (before_first is_slash (after_first is_slash (drop 8 t)))
          (after_first is_slash (after_first is_slash (drop 8 t))));
    }

pub parses-again : (t : List ℕ) → IsRsync t → length t < 3080 → rsync_refusal t ≡ None
unfolding path_refusal
parses-again t f h =
    let short : nat_le 3072 (length (drop 8 t)) ≡ false = let l = length-drop 8 t in grind (arith, nat_tests) in
    refuses-nothing t f.characters f.scheme
    (ap (λ v. cond v (Some LongUri) (names_refusal (segments (drop 8 t)))) short ∙ f.names) f.full

-- the two halves of a cut text
pub record Halves (t : List ℕ) (m : ℕ) : Type 0 where
  pub front : lowercase (take m t) ≡ codes "rsync://" ++ lowercase (authority_of t) ++ codes "/"
  pub back : drop m t ≡ module_name_of t ++ codes "/" ++ path_of t
  pub within : m ≤ length t

pub halves : (t : List ℕ) (m p : ℕ) → IsCut t m p → Halves t m
unfolding authority_of module_name_of path_of
halves t m p c =
    let a = position_or_len is_slash (drop 8 t) in
    let n = position_or_len is_slash (drop m t) in
    let em : m ≡ 9 + a = c.module_starts in
    let places = module-places t a n refl (ap (λ k. position_or_len is_slash (drop k t)) em) c.form.full in
    let after : after_first is_slash (drop 8 t) ≡ drop m t = after-first-drop 8 t ∙ ap (λ k. drop k t) (omega arith) in
    let l8 : length (drop 8 t) ≡ length t - 8 = length-drop 8 t in
    let one : drop 8 t ≡ before_first is_slash (drop 8 t) ++ codes "/" ++ after_first is_slash (drop 8 t) =
    at-slash (drop 8 t) (omega (arith, l8, places.fits)) in
    let fits : position_or_len is_slash (after_first is_slash (drop 8 t)) < length (after_first is_slash (drop 8 t)) =
    rw after (omega (arith, length-drop m t, places.fits)) in
    let two = at-slash (after_first is_slash (drop 8 t)) fits in
    let la : length (before_first is_slash (drop 8 t)) ≡ a = length-take-le a (drop 8 t)
    (omega (arith, l8, places.fits)) in
    let x : List ℕ = take 8 t ++ (before_first is_slash (drop 8 t) ++ codes "/") in
    let whole : t ≡ x ++ drop m t =
    sym (take-append-drop 8 t) ∙ ap (λ y. take 8 t ++ y)
    (one ∙ ap (λ y. (before_first is_slash (drop 8 t) ++ codes "/") ++ y) after)
    ∙ sym (append_assoc (take 8 t) (before_first is_slash (drop 8 t) ++ codes "/") (drop m t)) in
    let lx : length x ≡ m =
    length-append (take 8 t) (before_first is_slash (drop 8 t) ++ codes "/") ∙ omega (
      arith,
      la,
      em,
      length-take-le 8 t (omega (arith, places.fits)),
      length-append (before_first is_slash (drop 8 t))
          (codes "/"),
    ) in
    let is : take m t ≡ x = ap (take m) whole ∙ ap (λ k. take k (x ++ drop m t)) (sym lx) ∙ take-append_seam x
    (drop m t) in
    record {
      front = ap lowercase is ∙ map-append to_ascii_lowercase (take 8 t) _ ∙ ap
          (λ y. y ++ lowercase (before_first is_slash (drop 8 t) ++ codes "/")) ((bytes_eq-Decides _ _).0 c.form.scheme)
          ∙ ap (λ y. codes "rsync://" ++ y)
          (map-append to_ascii_lowercase (before_first is_slash (drop 8 t)) (codes "/"));
      back = sym after ∙ two;
      within = omega (arith, places.fits, em);
    }
