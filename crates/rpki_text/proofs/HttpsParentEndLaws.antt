-- Where the parent of an https text ends, by the place where its path begins.
use Rattle.std.proofs.Common.{◌≡◌, ℕ, ◌+◌, List, ◌++◌, length, take, Option, None, Some, sym, refl, ap, ◌∙◌, subst}
use Rattle.std.specs.Option.{option_map}
use Rattle.rpki_text.specs.UriText.{lowercase}
use Rattle.rpki_text.specs.HttpsText.{IsHttpsCut, IsHttpsParentEnd, HttpsUri, https_authority, https_path, path_above}
use Rattle.rpki_text.specs.HttpsText.{https_uri_of, https_parent_uri, https_parent_of}
use Rattle.rpki_text.proofs.HttpsPartLaws.{https-parent-cut, https-parent-text, https-parent-meaning}

pub https_end-made : (t : List ℕ) (n : ℕ) → IsHttpsCut t n → (k : ℕ)
    → path_above (https_path t) ≡ Some (take k (https_path t)) → IsHttpsParentEnd t (n + k)
https_end-made t n c k h = record { len = k; at = ap (λ j. j + k) c.path_starts; path = h }

end-at : (t : List ℕ) (n e : ℕ) → IsHttpsCut t n → (k : IsHttpsParentEnd t e) → n + k.len ≡ e
end-at t n e c k = ap (λ j. j + k.len) c.path_starts ∙ sym k.at

pub https_end-cut : (t : List ℕ) (n e : ℕ) → IsHttpsCut t n → IsHttpsParentEnd t e → IsHttpsCut (take e t) n
https_end-cut t n e c k =
    subst (λ (j : ℕ). IsHttpsCut (take j t) n) (end-at t n e c k) (https-parent-cut t n c k.len)

pub https_end-text : (t : List ℕ) (n e : ℕ) → IsHttpsCut t n → IsHttpsParentEnd t e
    → https_parent_of t ≡ Some (take e t)
https_end-text t n e c k = https-parent-text t n c k.len k.path ∙ ap (λ j. Some (take j t)) (end-at t n e c k)

pub https_end-meaning : (t : List ℕ) (n e : ℕ) → IsHttpsCut t n → IsHttpsParentEnd t e
    → Some (https_uri_of (take e t)) ≡ https_parent_uri (https_uri_of t)
https_end-meaning t n e c k =
    ap (λ j. Some (https_uri_of (take j t))) (sym (end-at t n e c k)) ∙ https-parent-meaning t n c k.len k.path

-- a text without a parent stands for a URI without one
pub https_none-meaning : (t : List ℕ) → https_parent_of t ≡ None → https_parent_uri (https_uri_of t) ≡ None
unfolding https_parent_of https_parent_uri https_uri_of
https_none-meaning t e = by_path (path_above (https_path t)) e where
  made : List ℕ → HttpsUri
  made path = record { authority = lowercase (https_authority t); path = path }

  by_path : (o : Option (List ℕ)) → option_map (λ path. take (8 + length (https_authority t)) t ++ path) o ≡ None
      → option_map made o ≡ None
  by_path None h = refl
  by_path (Some path) h = cc
