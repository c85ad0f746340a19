-- What is wrong with words that ask for nothing.
use Rattle.std.proofs.Common.{◌≡◌, ◌∙◌, ℕ, ◌+◌, ◌<◌, true, false, List, [], ◌∷◌, ◌++◌, length, get_or, drop, map, refl}
use Rattle.std.proofs.Common.{ap, ap₂, arith, suc, sym, drop-cons}
use Rattle.std.specs.Prelude.{Some, None, codes, bytes_eq}
use Rattle.rpkicert.specs.Complaint.{awaited, wrong_next, wrong_at_end, wrong_behind}

pub behind-none : (before : List (List ℕ)) → wrong_behind before [] ≡ wrong_at_end before
unfolding wrong_behind
behind-none before = refl

pub behind-files : (before : List (List ℕ)) (word : List ℕ) (words : List (List ℕ)) → bytes_eq word (codes "--") ≡ true
    → wrong_behind before (word ∷ words) ≡ wrong_at_end before
unfolding wrong_behind
behind-files before word words h = rw h refl

pub behind-wrong : (before : List (List ℕ)) (word : List ℕ) (words : List (List ℕ)) (said : List ℕ)
    → bytes_eq word (codes "--") ≡ false → wrong_next before word (awaited before) ≡ Some said
    → wrong_behind before (word ∷ words) ≡ said
unfolding wrong_behind
behind-wrong before word words said h w = rw (h, w) refl

pub behind-next : (before : List (List ℕ)) (word : List ℕ) (words : List (List ℕ))
    → bytes_eq word (codes "--") ≡ false → wrong_next before word (awaited before) ≡ None
    → wrong_behind before (word ∷ words) ≡ wrong_behind (before ++ (word ∷ [])) words
unfolding wrong_behind
behind-next before word words h w = rw (h, w) refl

-- the words from this one on
pub words-at : {A : Type 0} (text : A → List ℕ) (words : List A) (i : ℕ) (word : A) → i < length words
    → word ≡ get_or words i word → map text (drop i words) ≡ text word ∷ map text (drop (i + 1) words)
words-at text words i word h e =
    let next : suc i ≡ i + 1 = omega arith in
    ap (map text) (drop-cons words i word h)
    ∙ ap₂ (λ w n. text w ∷ map text (drop n words)) (sym e) next
