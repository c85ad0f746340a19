-- What equality of https URIs says, and that a text stands for one.
use Rattle.std.proofs.Common.{◌≡◌, ℕ, suc, true, List, [], ◌∷◌, length, bytes_eq, sym, refl, ap, ◌∙◌, inl, inr, ◌+◌}
use Rattle.std.proofs.Common.{Bool, false, cond, not, take, arith}
use Rattle.std.specs.List.{before_first, list_any, position_or_len}
use Rattle.std.specs.Cmp.{first_so, second_so}
use Rattle.std.proofs.lemmas.Slice.Eq.{bytes_eq-Decides}
use borrow.Author.Tests.{eqb-true}
use Rattle.rpki_text.specs.UriText.{lowercase}
use Rattle.rpki_text.specs.Segments.{is_slash}
use Rattle.rpki_text.specs.HttpsText.{https_authority, https_path, HttpsUri, https_uri_of, IsHttpsUri, SpellsHttps}
use Rattle.rpki_text.specs.HttpsText.{same_https, https_parent_uri}
use Rattle.rpki_text.specs.SameHttpsLaws.{same_https-equiv}
use Rattle.rpki_text.proofs.HttpsPartLaws.{AtSlash, https-read}
use Rattle.rpki_text.proofs.PartLaws.{slash-lowercase}
use Rattle.rpki_text.proofs.TextLaws.{length-lowercase}

pub same_https-parts : (u v : HttpsUri) → same_https u v ≡ true → u ≡ v
same_https-parts u v h =
    let e1 : u.authority ≡ v.authority = (bytes_eq-Decides _ _).0 (first_so (bytes_eq u.authority v.authority) _ h) in
    let e2 : u.path ≡ v.path = (bytes_eq-Decides _ _).0 (second_so (bytes_eq u.authority v.authority) _ h) in
    let made : List ℕ → List ℕ → HttpsUri = λ a p. record { authority = a; path = p } in
    ap (λ a. made a u.path) e1 ∙ ap (λ p. made v.authority p) e2

pub same_https-from-parts : (u v : HttpsUri) → u ≡ v → same_https u v ≡ true
same_https-from-parts u v e = ap (same_https u) (sym e) ∙ same_https-equiv.refl u

pub equal-https-parents : (u v : HttpsUri) → same_https u v ≡ true → https_parent_uri u ≡ https_parent_uri v
equal-https-parents u v h = ap https_parent_uri (same_https-parts u v h)

at-slash-from : (y : List ℕ) → before_first is_slash y ≡ [] → AtSlash y
at-slash-from [] h = inl refl
at-slash-from (b ∷ y) h = by_cases (is_slash b) refl h where
  by_cases : (v : Bool) → is_slash b ≡ v → take (cond (not v) (1 + position_or_len is_slash y) 0) (b ∷ y) ≡ []
      → AtSlash (b ∷ y)
  by_cases true e k = inr (y, ap (λ x. x ∷ y) (eqb-true b 47 e))
  by_cases false e k =
      let at : suc (position_or_len is_slash y) ≡ 1 + position_or_len is_slash y = omega arith in
      let none : b ∷ take (position_or_len is_slash y) y ≡ [] = ap (λ m. take m (b ∷ y)) at ∙ k in cc

pub one-https-meaning : (t : List ℕ) (u : HttpsUri) → SpellsHttps t u → IsHttpsUri u → u ≡ https_uri_of t
unfolding https_uri_of
one-https-meaning t u s k =
    let long : length s.scheme ≡ 8 = sym (length-lowercase s.scheme) ∙ ap length s.any_case.0 in
    let free : list_any is_slash s.authority ≡ false = sym (slash-lowercase s.authority) ∙ ap (list_any is_slash)
    s.any_case.1 ∙ k.one_part in
    let read = https-read s.scheme s.authority u.path long free (at-slash-from u.path k.path) in
    let a : lowercase (https_authority t) ≡ u.authority = ap (λ x. lowercase (https_authority x)) s.is ∙ ap lowercase
    read.authority_is ∙ s.any_case.1 in
    let p : https_path t ≡ u.path = ap https_path s.is ∙ read.path_is in
    rw (a, p) refl
