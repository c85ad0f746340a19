-- Where the parts of a text are, by the places where it is cut.
use Rattle.std.proofs.Common.{◌≡◌, ◌≤◌, ℕ, ◌-◌, ◌+◌, true, List, ◌++◌, length, take, drop, slice_range, sym, ap, ◌∙◌}
use Rattle.std.proofs.Common.{arith, le_refl, take_all}
use Rattle.std.specs.List.{list_all}
use Rattle.std.proofs.lemmas.List.{length-drop, length-take-le, length-append, take-append-drop}
use Rattle.std.proofs.Math.Seq.{drop-append_seam}
use Rattle.rpki_text.specs.UriText.{is_uri_byte}
use Rattle.rpki_text.specs.RsyncText.{IsCut, authority_of, module_name_of, path_of}
use Rattle.rpki_text.specs.HttpsText.{IsHttpsCut, https_authority, https_path}
use Rattle.rpki_text.specs.Places.{IsPartAt}
use Rattle.rpki_text.proofs.CutLaws.{cut-facts, list-all-take, list-all-drop}
use Rattle.rpki_text.proofs.HttpsPartLaws.{authority-long, https-halves}

-- the octets of any range are characters of a URI where all are
pub range-passes : (t : List ℕ) (i j : ℕ) → list_all is_uri_byte t ≡ true
    → list_all is_uri_byte (slice_range t i j) ≡ true
range-passes t i j h = list-all-take is_uri_byte _ _ (list-all-drop is_uri_byte i t h)

pub authority-at : (t : List ℕ) (m p : ℕ) → IsCut t m p
    → IsPartAt t (record { start = 8; end = m - 1 }) (authority_of t)
authority-at t m p c =
    let facts = cut-facts t m p c in
    record {
      ordered = omega (arith, facts.authority);
      within = omega (arith, facts.authority, facts.module_name, facts.fits);
      octets = ap (λ n. take n (drop 8 t)) (omega arith) ∙ sym facts.authority_is;
    }

pub module_name-at : (t : List ℕ) (m p : ℕ) → IsCut t m p
    → IsPartAt t (record { start = m; end = p - 1 }) (module_name_of t)
module_name-at t m p c =
    let facts = cut-facts t m p c in
    record {
      ordered = omega (arith, facts.module_name);
      within = omega (arith, facts.fits);
      octets = ap (λ n. take n (drop m t)) (omega arith) ∙ sym facts.module_name_is;
    }

-- the module's name begins after the authority and a slash
pub module_name-first : (t : List ℕ) (m p : ℕ) → IsCut t m p → m ≡ 9 + length (authority_of t)
module_name-first t m p c =
    let facts = cut-facts t m p c in
    let size : length (take (m - 9) (drop 8 t)) ≡ m - 9 =
    length-take-le (m - 9) (drop 8 t) (omega (arith, facts.authority, facts.module_name, facts.fits, length-drop 8 t))
    in
    omega (arith, facts.authority, size, ap length facts.authority_is)

-- what follows a place, to the end
pub rest-at : (t part : List ℕ) (n : ℕ) → n ≤ length t → part ≡ drop n t
    → IsPartAt t (record { start = n; end = length t }) part
rest-at t part n h e =
    let size : length (drop n t) ≡ length t - n = length-drop n t in
    record {
      ordered = h;
      within = le_refl (length t);
      octets = take_all (length t - n) (drop n t) (omega (arith, size)) ∙ sym e;
    }

pub path-at : (t : List ℕ) (m p : ℕ) → IsCut t m p → IsPartAt t (record { start = p; end = length t }) (path_of t)
path-at t m p c = let facts = cut-facts t m p c in rest-at t (path_of t) p facts.fits facts.path_is

-- a part that follows some place ends the text
pub end-at : (t part : List ℕ) (n : ℕ) → part ≡ drop n t
    → IsPartAt t (record { start = length t - length part; end = length t }) part
end-at t part n e =
    let parts : t ≡ take n t ++ part = sym (take-append-drop n t) ∙ ap (λ r. take n t ++ r) (sym e) in
    let size : length t - length part ≡ length (take n t) = omega
    (arith, ap length parts, length-append (take n t) part) in
    rest-at t part (length t - length part) (omega arith)
    (sym (drop-append_seam (take n t) part) ∙ ap (drop (length (take n t))) (sym parts) ∙ ap (λ k. drop k t) (sym size))

pub https_authority-at : (t : List ℕ) (n : ℕ) → IsHttpsCut t n
    → IsPartAt t (record { start = 8; end = n }) (https_authority t)
unfolding https_authority
https_authority-at t n c =
    let h = https-halves t n c in
    record {
      ordered = omega (arith, c.path_starts);
      within = h.fits;
      octets = ap (λ k. take k (drop 8 t)) (omega (arith, c.path_starts, authority-long t));
    }

pub https_path-at : (t : List ℕ) (n : ℕ) → IsHttpsCut t n
    → IsPartAt t (record { start = n; end = length t }) (https_path t)
https_path-at t n c = let h = https-halves t n c in rest-at t (https_path t) n h.fits h.path
