-- Where the parent of a text ends, by the places where the text is cut.
use Rattle.std.proofs.Common.{◌≡◌, ℕ, ◌+◌, ◌-◌, true, List, ◌++◌, length, take, Option, None, Some, sym, refl, ap, ◌∙◌}
use Rattle.std.proofs.Common.{subst}
use Rattle.std.proofs.lemmas.List.{length-take-le}
use Rattle.std.specs.Option.{option_map}
use Rattle.rpki_text.specs.Segments.{segments, path_text, IsParentLen}
use Rattle.rpki_text.specs.UriText.{lowercase}
use Rattle.rpki_text.specs.RsyncText.{RsyncUri, authority_of, module_name_of, path_of, module_of, parent_of, parent_uri}
use Rattle.rpki_text.specs.RsyncText.{uri_of, without_last, IsCut, IsParentEnd}
use Rattle.rpki_text.proofs.CutLaws.{cut-facts}
use Rattle.rpki_text.proofs.ModuleLaws.{module-is}
use Rattle.rpki_text.proofs.JoinLaws.{parent-cut, parent-is, parent-meaning}

module-long : (t : List ℕ) (m p : ℕ) → IsCut t m p → length (module_of t) ≡ p
module-long t m p c = let facts = cut-facts t m p c in ap length (module-is t m p c) ∙ length-take-le p t facts.fits

pub parent_end-made : (t : List ℕ) (m p : ℕ) → IsCut t m p → (n : ℕ) → IsParentLen (path_of t) n → IsParentEnd t (p + n)
parent_end-made t m p c n k = record { len = n; at = ap (λ j. j + n) (sym (module-long t m p c)); path = k }

end-at : (t : List ℕ) (m p n : ℕ) → IsCut t m p → (k : IsParentEnd t n) → p + k.len ≡ n
end-at t m p n c k = ap (λ j. j + k.len) (sym (module-long t m p c)) ∙ sym k.at

pub parent_end-cut : (t : List ℕ) (m p n : ℕ) → IsCut t m p → IsParentEnd t n → IsCut (take n t) m p
parent_end-cut t m p n c k =
    subst (λ (j : ℕ). IsCut (take j t) m p) (end-at t m p n c k) (parent-cut t m p c k.len k.path)

pub parent_end-text : (t : List ℕ) (m p n : ℕ) → IsCut t m p → IsParentEnd t n → parent_of t ≡ Some (take n t)
parent_end-text t m p n c k = parent-is t m p c k.len k.path ∙ ap (λ j. Some (take j t)) (end-at t m p n c k)

pub parent_end-meaning : (t : List ℕ) (m p n : ℕ) → IsCut t m p → IsParentEnd t n
    → Some (uri_of (take n t)) ≡ parent_uri (uri_of t)
parent_end-meaning t m p n c k =
    ap (λ j. Some (uri_of (take j t))) (sym (end-at t m p n c k)) ∙ parent-meaning t m p c k.len k.path

-- a text without a parent stands for a URI without one
pub parent_none-meaning : (t : List ℕ) → parent_of t ≡ None → parent_uri (uri_of t) ≡ None
unfolding parent_of parent_uri uri_of
parent_none-meaning t e = by_names (without_last (segments (path_of t))) e where
  made : List (List ℕ) → RsyncUri
  made names = record {
    authority = lowercase (authority_of t);
    module_name = module_name_of t;
    segments = names;
    is_dir
        = true;
  }

  by_names : (o : Option (List (List ℕ)))
      → option_map (λ names. take (length t - length (path_of t)) t ++ path_text names true) o ≡ None
      → option_map made o ≡ None
  by_names None h = refl
  by_names (Some names) h = cc
