-- The same https URI, by its texts: what the laws of equality and of the hash rest on.
use Rattle.std.specs.Prelude.{◌≡◌, ℕ, true, List, ◌++◌, bytes_eq, codes, flat_map}
use Rattle.std.proofs.Common.{ap, ◌∙◌}
use Rattle.std.specs.Ordering.{on}
use Rattle.std.specs.Cmp.{first_so, second_so, IsEquivalence, IsPartialEquivalence, on_equiv, and_equiv, nat_eq_equiv}
use Rattle.std.specs.Cmp.{partial_equiv_from_equiv}
use Rattle.std.specs.Cmp.Lexicographic.{lists_equiv}
use Rattle.std.specs.Hash as fed
use Rattle.std.proofs.lemmas.Slice.Eq.{bytes_eq-Decides}
use Rattle.rpki_text.specs.UriText.{lowercase}
use Rattle.rpki_text.specs.HttpsText.{https_authority, https_path, HttpsUri, https_uri_of, same_https, https_hashed}

-- the same URI is hashed alike
pub same_https-hashed : (a b : List ℕ) → same_https (https_uri_of a) (https_uri_of b) ≡ true
    → https_hashed a ≡ https_hashed b
unfolding https_uri_of
same_https-hashed a b h =
    let e1 : lowercase (https_authority a) ≡ lowercase (https_authority b) =
    (bytes_eq-Decides _ _).0 (first_so _ _ h) in
    let e2 : https_path a ≡ https_path b = (bytes_eq-Decides _ _).0
    (second_so (bytes_eq (lowercase (https_authority a)) (lowercase (https_authority b))) _ h) in
    ap (λ x. flat_map fed.u8 (codes "https://" ++ x) ++ fed.slice fed.u8 (https_path a)) e1
    ∙ ap (λ x. flat_map fed.u8 (codes "https://" ++ lowercase (https_authority b)) ++ fed.slice fed.u8 x) e2

-- equality is an equivalence
pub same_https-equiv : IsEquivalence same_https
same_https-equiv =
    and_equiv (on_equiv (λ (u : HttpsUri). u.authority) (lists_equiv nat_eq_equiv))
    (on_equiv (λ (u : HttpsUri). u.path) (lists_equiv nat_eq_equiv))

pub https_equiv : IsEquivalence (on https_uri_of same_https)
https_equiv = on_equiv https_uri_of same_https-equiv

pub https_per : IsPartialEquivalence (on https_uri_of same_https)
https_per = partial_equiv_from_equiv https_equiv
