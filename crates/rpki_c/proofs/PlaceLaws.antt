-- Parts of URIs that are known by their places.
use Rattle.std.proofs.Common.{◌≡◌, ◌≤◌, ℕ, ◌+◌, ◌++◌, codes, List, length, take, drop, sym, ap, ◌∙◌, subst, arith}
use Rattle.std.proofs.lemmas.List.{length-drop, length-take-le, append_assoc, map-append}
use Rattle.std.specs.List.{position_or_len}
use Rattle.rpki_text.specs.Segments.{is_slash}
use Rattle.rpki_text.specs.UriText.{lowercase}
use Rattle.rpki_text.specs.RsyncText.{IsCut, module_name_of, path_of}
use Rattle.rpki_text.proofs.CutLaws.{cut-of, cut-facts, module_start}
use Rattle.rpki_text.proofs.PlaceLaws.{authority-at, module_name-at, module_name-first, path-at, https_authority-at}
use Rattle.rpki_text.proofs.PlaceLaws.{https_path-at}
use Rattle.rpki_text.proofs.LawLaws.{halves}
use Rattle.rpki_text.proofs.ModuleLaws.{canonical-by}
use Rattle.rpki_c.specs.declared.rsync.RsyncParts.{RsyncParts}
use Rattle.rpki_c.specs.declared.place.Place.{Place}
use Rattle.rpki_c.specs.Uri.{IsPlace}
use Rattle.rpki_c.specs.UriPlaces.{AreParts, AreLaidOut, with_end, canonical_of, AreHttpsParts, AreHttpsLaidOut}
use Rattle.rpki_c.specs.UriPlaces.{with_https_end, https_canonical_of}
use Rattle.std.specs.Char.{to_ascii_lowercase}
use Rattle.rpki_text.specs.HttpsText.{IsHttpsCut, https_authority}
use Rattle.rpki_text.proofs.HttpsPartLaws.{https-halves}
use Rattle.rpki_c.specs.declared.https.HttpsParts.{HttpsParts}

-- ---- Parts that are known by their places

-- a part has as many octets as its place says
pub place-length : {s : List ℕ} {p : Place} {part : List ℕ} → IsPlace s p part → p.length ≡ length part
place-length {s} {p} h =
    let inside : p.length ≤ length (drop p.start s) = omega (arith, h.within, length-drop p.start s) in
    sym (length-take-le p.length (drop p.start s) inside) ∙ ap length h.octets

-- the places of the parts are those where the text is cut
pub parts-cut : {t : List ℕ} {p : RsyncParts} → AreParts t p → IsCut t p.module_name.start p.path.start
parts-cut {t} {p} a =
    let c = cut-of t a.form in
    let facts = cut-facts t _ _ c in
    let first = module_name-first t _ _ c in
    let size = place-length a.parts.path in
    let path = ap length facts.path_is ∙ length-drop _ t in
    let n : ℕ = module_start t + position_or_len is_slash (drop (module_start t) t) + 1 in
    let last : n ≡ p.path.start = omega (arith, size, path, facts.fits, a.parts.path_last) in
    subst (λ (m : ℕ). IsCut t m p.path.start) (first ∙ sym a.parts.module_name_first)
    (subst (λ (k : ℕ). IsCut t (module_start t) k) last c)

-- a text that is cut at the same places has parts at the same places
pub end-parts : {t : List ℕ} {p : RsyncParts} {size : ℕ} → AreLaidOut size p → IsCut t p.module_name.start p.path.start
    → AreParts t (with_end p (length t))
end-parts {t} {p} h c =
    let authority = authority-at t _ _ c in
    let module_name = module_name-at t _ _ c in
    let path = path-at t _ _ c in
    let facts = cut-facts t _ _ c in
    record {
      form = c.form;
      parts = record {
        authority = record {
          within = omega (arith, authority.within, authority.ordered, h.authority, h.module_name);
          octets = ap (λ n. take p.authority.length (drop n t)) h.authority
              ∙ ap (λ k. take k (drop 8 t)) (omega (arith, h.module_name)) ∙ authority.octets;
        };
        module_name = record {
          within = omega (arith, module_name.within, h.path);
          octets = ap (λ k. take k (drop p.module_name.start t)) (omega (arith, h.path)) ∙ module_name.octets;
        };
        path = record {
          within = omega (arith, facts.fits);
          octets = path.octets;
        };
        authority_first = h.authority;
        module_name_first = module_name-first t _ _ c;
        path_last = omega (arith, facts.fits);
      };
    }

regroup : (l m s p : List ℕ) → l ++ ((m ++ s) ++ p) ≡ ((l ++ m) ++ s) ++ p
regroup l m s p = simp append_assoc

-- the canonical form, by the place where the module's name begins
pub lower-canonical : {t : List ℕ} {m p : ℕ} → IsCut t m p → lowercase (take m t) ++ drop m t ≡ canonical_of t
lower-canonical {t} {m} {p} c =
    let h = halves t m p c in
    ap (λ r. lowercase (take m t) ++ r) h.back
    ∙ regroup (lowercase (take m t)) (module_name_of t) (codes "/") (path_of t)
    ∙ ap (λ x. x ++ path_of t) (canonical-by t (lowercase (take m t)) h.front)

-- ---- Parts of https URIs that are known by their places

-- the path of the parts begins where the path of the text does
pub https-cut : {t : List ℕ} {p : HttpsParts} → AreHttpsLaidOut (length t) p → AreHttpsParts t p
    → IsHttpsCut t p.path.start
https-cut {t} {p} h a =
    let size = place-length a.parts.authority in
    record { passes = a.passes; path_starts = omega (arith, size, h.path) }

-- a text that is cut at the same place has parts at the same places
pub https-end-parts : {t : List ℕ} {p : HttpsParts} {size : ℕ} → AreHttpsLaidOut size p → IsHttpsCut t p.path.start
    → AreHttpsParts t (with_https_end p (length t))
https-end-parts {t} {p} h c =
    let authority = https_authority-at t _ c in
    let path = https_path-at t _ c in
    record {
      passes = c.passes;
      parts = record {
        authority = record {
          within = omega (arith, authority.within, authority.ordered, h.authority, h.path);
          octets = ap (λ n. take p.authority.length (drop n t)) h.authority
              ∙ ap (λ k. take k (drop 8 t)) (omega (arith, h.path)) ∙ authority.octets;
        };
        path = record {
          within = omega (arith, path.ordered);
          octets = path.octets;
        };
        authority_first = h.authority;
        path_last = omega (arith, path.ordered);
      };
    }

-- the canonical form, by the place where the path begins
pub https-lower-canonical : {t : List ℕ} {n : ℕ} → IsHttpsCut t n
    → lowercase (take n t) ++ drop n t ≡ https_canonical_of t
https-lower-canonical {t} {n} c =
    let h = https-halves t n c in
    let front : lowercase (take n t) ≡ codes "https://" ++ lowercase (https_authority t) =
    ap lowercase h.front ∙ map-append to_ascii_lowercase (take 8 t) (https_authority t)
    ∙ ap (λ s. s ++ lowercase (https_authority t)) h.form.scheme in
    ap (λ l. l ++ drop n t) front ∙ ap (λ r. (codes "https://" ++ lowercase (https_authority t)) ++ r) (sym h.path)
