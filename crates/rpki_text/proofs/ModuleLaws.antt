-- All up to the path, and equality with octets.
use Rattle.std.proofs.Common.{◌≡◌, ◌↔◌, ℕ, ◌-◌, Bool, true, false, IsTrue, List, ◌++◌, length, take, codes, sym, refl}
use Rattle.std.proofs.Common.{ap, ◌∙◌, arith}
use Rattle.std.specs.List.{list_all}
use Rattle.std.proofs.lemmas.List.{append_cancel_right, length-drop, length-take-le, append_assoc, take-append-drop}
use Rattle.std.proofs.lemmas.List.{length-append}
use Rattle.std.proofs.Math.Seq.{take-append_seam}
use Rattle.rpki_text.specs.UriText.{is_uri_byte, lowercase, same_text}
use Rattle.rpki_text.specs.RsyncText.{IsCut, authority_of, module_name_of, path_of, module_of, canonical_module_of}
use Rattle.rpki_text.specs.RsyncText.{eq_rsync_bytes}
use Rattle.rpki_text.proofs.CutLaws.{cut-facts, list-all-take}
use Rattle.rpki_text.proofs.LawLaws.{halves}
use Rattle.rpki_text.proofs.MeaningLaws.{cut-lengths}

pub module-is : (t : List ℕ) (m p : ℕ) → IsCut t m p → module_of t ≡ take p t
unfolding module_of
module-is t m p c =
    let facts = cut-facts t m p c in
    ap (λ n. take n t) (omega (arith, ap length facts.path_is, length-drop p t, facts.fits))

pub module-passes : (t : List ℕ) (m p : ℕ) → IsCut t m p → (n : ℕ) → list_all is_uri_byte (take n t) ≡ true
module-passes t m p c n = list-all-take is_uri_byte n t c.form.characters

-- the scheme and the authority, and then the module's name
pub module-halves : (t : List ℕ) (m p : ℕ) → IsCut t m p → module_of t ≡ take m t ++ module_name_of t ++ codes "/"
module-halves t m p c =
    let facts = cut-facts t m p c in
    let h = halves t m p c in
    let sizes = cut-lengths t m p c in
    let lm : length (take m t) ≡ m = length-take-le m t h.within in
    let front : List ℕ = (take m t ++ module_name_of t) ++ codes "/" in
    let whole : t ≡ front ++ path_of t =
    sym (take-append-drop m t) ∙ ap (λ s. take m t ++ s) h.back ∙ regroup (take m t) (module_name_of t) (path_of t) in
    let size : length front ≡ p = length-append (take m t ++ module_name_of t) (codes "/") ∙ omega
    (arith, length-append (take m t) (module_name_of t), lm, sizes.1, facts.module_name) in
    module-is t m p c ∙ ap (take p) whole ∙ ap (λ n. take n (front ++ path_of t)) (sym size) ∙ take-append_seam front
    (path_of t) where
      regroup : (a b d : List ℕ) → a ++ ((b ++ codes "/") ++ d) ≡ ((a ++ b) ++ codes "/") ++ d
      regroup a b d = simp append_assoc refl

-- the front in lower case, and then the module's name
pub canonical-by : (t lower : List ℕ) → lower ≡ codes "rsync://" ++ lowercase (authority_of t) ++ codes "/"
    → lower ++ module_name_of t ++ codes "/" ≡ canonical_module_of t
unfolding canonical_module_of
canonical-by t lower e = ap (λ s. s ++ module_name_of t ++ codes "/") e

-- a canonical module that is the module as it was spelled has no capital before the module's name
pub lower-site : (t site : List ℕ) → lowercase site ≡ codes "rsync://" ++ lowercase (authority_of t) ++ codes "/"
    → module_of t ≡ site ++ module_name_of t ++ codes "/" → canonical_module_of t ≡ module_of t → lowercase site ≡ site
lower-site t site low is same =
    append_cancel_right _ _ (module_name_of t)
    (append_cancel_right _ _ (codes "/") (canonical-by t (lowercase site) low ∙ same ∙ is))

-- so it allocates nothing where a test says that there is one
pub borrowed : {P : Type 0} (t site : List ℕ) (b : Bool)
    → lowercase site ≡ codes "rsync://" ++ lowercase (authority_of t) ++ codes "/"
    → module_of t ≡ site ++ module_name_of t ++ codes "/" → IsTrue b ↔ (lowercase site ≡ site) → b ≡ false
    → canonical_module_of t ≡ module_of t → P
borrowed t site true low is test h same = absurd (cc)
borrowed t site false low is test h same =
    absurd (let yes : false ≡ true = test.1 (lower-site t site low is same) in cc)

-- ---- equality with octets

pub eq_bytes-at : (t other : List ℕ) (m p : ℕ) → IsCut t m p → same_text (m - 1) t other ≡ eq_rsync_bytes t other
unfolding eq_rsync_bytes
eq_bytes-at t other m p c =
    let facts = cut-facts t m p c in
    let sizes = cut-lengths t m p c in
    ap (λ n. same_text n t other) (omega (arith, sizes.0, facts.authority))
