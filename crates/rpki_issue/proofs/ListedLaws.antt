-- Extensions that are written in sequence.
use Rattle.std.proofs.Common.{◌≡◌, ℕ, List, [], ◌∷◌, ◌++◌, refl, ap, sym, ◌∙◌, append_assoc}
use Rattle.rpki.specs.ExtensionValue.{ExtensionParts, written_extension}
use Rattle.rpki_issue.specs.Extensions.{extensions_listed}
use Rattle.rpki_issue.specs.Refusal.{IsMore}

pub listed-append : (xs ys : List ExtensionParts)
    → extensions_listed (xs ++ ys) ≡ extensions_listed xs ++ extensions_listed ys
listed-append [] ys = refl
listed-append (x ∷ xs) ys =
    ap (λ (w : List ℕ). written_extension x ++ w) (listed-append xs ys)
    ∙ sym (append_assoc (written_extension x) (extensions_listed xs) (extensions_listed ys))

-- these, and then those
pub more-then : (a b d : List ℕ) (xs ys : List ExtensionParts) → IsMore a b xs → IsMore b d ys
    → IsMore a d (xs ++ ys)
more-then a b d xs ys h k =
    k ∙ ap (λ (w : List ℕ). w ++ extensions_listed ys) h
    ∙ append_assoc a (extensions_listed xs) (extensions_listed ys)
    ∙ ap (λ (w : List ℕ). a ++ w) (sym (listed-append xs ys))
