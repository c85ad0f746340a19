-- One word.
use Rattle.std.proofs.Common.{◌≡◌, ℕ, ◌<◌, ◌≤◌, List, [], ◌∷◌, length, get_or, map, sym, ap, ◌∙◌, arith}

single : {A : Type 0} (xs : List A) (x : A) → 1 ≤ length xs → length xs < 2 → x ≡ get_or xs 0 x → xs ≡ x ∷ []
single [] x l h e = absurd (omega arith)
single (y ∷ []) x l h e = ap (λ w. w ∷ []) (sym e)
single (y ∷ z ∷ ys) x l h e = absurd (omega arith)

-- the words are the one word with this text
pub one-word : {A : Type 0} (text : A → List ℕ) (words : List A) (word : A) (t : List ℕ) → 1 ≤ length words
    → length words < 2 → word ≡ get_or words 0 word → text word ≡ t → map text words ≡ t ∷ []
one-word text words word t some one is same = ap (map text) (single words word some one is) ∙ ap (λ w. w ∷ []) same
