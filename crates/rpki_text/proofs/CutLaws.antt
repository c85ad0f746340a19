-- The parts of a text that is cut at its two places.
use Rattle.std.proofs.Common.{◌≡◌, ℕ, zero, suc, ◌+◌, ◌-◌, ◌<◌, ◌≤◌, Bool, true, false, ◌&&◌, List, [], ◌∷◌, length}
use Rattle.std.proofs.Common.{take, drop, get_or, sym, refl, ap, ◌∙◌, arith, IsUtf8}
use Rattle.std.specs.List.{position_or_len, before_first, after_first, list_all}
use Rattle.std.proofs.lemmas.List.{take-append-drop}
use Rattle.std.proofs.lemmas.List.Folds.{list_all-append}
use Rattle.std.proofs.lemmas.Str.{IsUtf8-from_ascii}
use Rattle.std.proofs.lemmas.Bool.Decides.{nat_tests}
use Rattle.rpki_text.specs.Segments.{is_slash}
use Rattle.rpki_text.specs.UriText.{is_uri_byte}
use Rattle.rpki_text.specs.RsyncText.{authority_of, module_name_of, path_of, IsRsync, IsCut}
use Rattle.rpki_text.proofs.UriLaws.{module-places, after-first-drop}

and-first : (a b : Bool) → (a && b) ≡ true → a ≡ true
and-first true b e = refl
and-first false b e = e

and-second : (a b : Bool) → (a && b) ≡ true → b ≡ true
and-second true b e = e
and-second false b e = cc

-- parts of a text have the text's characters
pub list-all-take : (q : ℕ → Bool) (n : ℕ) (t : List ℕ) → list_all q t ≡ true → list_all q (take n t) ≡ true
list-all-take q n t h =
    and-first _ _ (sym (list_all-append q (take n t) (drop n t)) ∙ ap (list_all q) (take-append-drop n t) ∙ h)

pub list-all-drop : (q : ℕ → Bool) (n : ℕ) (t : List ℕ) → list_all q t ≡ true → list_all q (drop n t) ≡ true
list-all-drop q n t h =
    and-second _ _ (sym (list_all-append q (take n t) (drop n t)) ∙ ap (list_all q) (take-append-drop n t) ∙ h)

uri-byte-ascii : (b : ℕ) → is_uri_byte b ≡ true → b < 128
unfolding is_uri_byte
uri-byte-ascii b h = grind (arith, nat_tests)

pub uri-bytes-ascii : (t : List ℕ) → list_all is_uri_byte t ≡ true → (i : ℕ) → get_or t i 0 < 128
uri-bytes-ascii [] h i = omega arith
uri-bytes-ascii (b ∷ bs) h zero = uri-byte-ascii b (and-first _ _ h)
uri-bytes-ascii (b ∷ bs) h (suc i) = uri-bytes-ascii bs (and-second (is_uri_byte b) _ h) i

pub IsUtf8-from-uri-bytes : (t : List ℕ) → list_all is_uri_byte t ≡ true → IsUtf8 t
IsUtf8-from-uri-bytes t h = IsUtf8-from_ascii t (uri-bytes-ascii t h)

pub record CutFacts (t : List ℕ) (m p : ℕ) : Type 0 where
  pub authority : 9 < m
  pub module_name : m + 1 < p
  pub fits : p ≤ length t
  pub authority_is : authority_of t ≡ take (m - 9) (drop 8 t)
  pub module_name_is : module_name_of t ≡ take (p - m - 1) (drop m t)
  pub path_is : path_of t ≡ drop p t
  pub authority_passes : list_all is_uri_byte (authority_of t) ≡ true
  pub module_name_passes : list_all is_uri_byte (module_name_of t) ≡ true
  pub path_passes : list_all is_uri_byte (path_of t) ≡ true

pub cut-facts : (t : List ℕ) (m p : ℕ) → IsCut t m p → CutFacts t m p
unfolding authority_of module_name_of path_of
cut-facts t m p c =
    let a = position_or_len is_slash (drop 8 t) in
    let n = position_or_len is_slash (drop m t) in
    let em : m ≡ 9 + a = c.module_starts in
    let ep : p ≡ m + n + 1 = c.path_starts in
    let places = module-places t a n refl (ap (λ k. position_or_len is_slash (drop k t)) em) c.form.full in
    let after : after_first is_slash (drop 8 t) ≡ drop m t = after-first-drop 8 t ∙ ap (λ k. drop k t) (omega arith) in
    let authority_is : authority_of t ≡ take (m - 9) (drop 8 t) = ap (λ k. take k (drop 8 t)) (omega arith) in
    let module_name_is : module_name_of t ≡ take (p - m - 1) (drop m t) = ap (before_first is_slash) after ∙ ap
    (λ k. take k (drop m t)) (omega arith) in
    let path_is : path_of t ≡ drop p t = ap (after_first is_slash) after ∙ after-first-drop m t ∙ ap (λ k. drop k t)
    (omega arith) in
    let whole : list_all is_uri_byte t ≡ true = c.form.characters in
    record {
      authority = omega (arith, places.some_authority);
      module_name = omega (arith, places.some_module);
      fits = omega (arith, places.fits);
      authority_is = authority_is;
      module_name_is = module_name_is;
      path_is = path_is;
      authority_passes =
          ap (list_all is_uri_byte) authority_is ∙ list-all-take is_uri_byte _ _ (list-all-drop is_uri_byte 8 t whole);
      module_name_passes = ap (list_all is_uri_byte) module_name_is ∙ list-all-take is_uri_byte _ _
          (list-all-drop is_uri_byte m t whole);
      path_passes = ap (list_all is_uri_byte) path_is ∙ list-all-drop is_uri_byte p t whole;
    }

-- the two places of a text with which nothing is wrong but perhaps its length
abbrev pub module_start : List ℕ → ℕ
module_start t = 9 + position_or_len is_slash (drop 8 t)

pub cut-of : (t : List ℕ) → IsRsync t
    → IsCut t (module_start t) (module_start t + position_or_len is_slash (drop (module_start t) t) + 1)
cut-of t f = record { form = f; module_starts = refl; path_starts = refl }

pub path-passes : (t : List ℕ) → IsRsync t → list_all is_uri_byte (path_of t) ≡ true
path-passes t f = let facts = cut-facts t _ _ (cut-of t f) in facts.path_passes
