-- What is wrong with words that ask for nothing.
use Rattle.std.proofs.Common.{◌≡◌, ◌∙◌, ◌+◌, ◌<◌, ℕ, suc, Bool, true, List, [], ◌∷◌, ◌++◌, length, get_or, take, drop}
use Rattle.std.proofs.Common.{map, ap, ap₂, arith, drop-cons, refl, sym}
use Rattle.std.proofs.lemmas.List.{take_more, map-append}
use Rattle.std.specs.Prelude.{Some, None}
use Rattle.rpkivalid.specs.Complaint.{awaited, in_files_after, takes_value, wrong_behind, wrong_given, wrong_next}
use Rattle.rpkivalid.specs.Complaint.{wrong_at_end, wrong_value}

pub behind-none : (before : List (List ℕ)) (named : Bool) → wrong_behind before named [] ≡ wrong_at_end before
unfolding wrong_behind
behind-none before named = refl

pub behind-wrong : (before : List (List ℕ)) (named : Bool) (word : List ℕ) (words : List (List ℕ)) (said : List ℕ)
    → wrong_next before named word (awaited before) ≡ Some said → wrong_behind before named (word ∷ words) ≡ said
unfolding wrong_behind
behind-wrong before named word words said w = rw w refl

pub behind-next : (before : List (List ℕ)) (named : Bool) (word : List ℕ) (words : List (List ℕ))
    → wrong_next before named word (awaited before) ≡ None
    → wrong_behind before named (word ∷ words)
    ≡ wrong_behind (before ++ (word ∷ [])) (in_files_after named word) words
unfolding wrong_behind
behind-next before named word words w = rw w refl

pub given-value : (option word : List ℕ) → takes_value option ≡ true
    → wrong_value option (drop (length option + 1) word) ≡ wrong_given option word
unfolding wrong_given
given-value option word takes = rw takes refl

-- the words up to this one, and from it on
pub names-more : {A : Type 0} (text : A → List ℕ) (files : List A) (i : ℕ) (file : A) → i < length files
    → file ≡ get_or files i file
    → map text (take (i + 1) files) ≡ map text (take i files) ++ (text file ∷ [])
names-more text files i file h e =
    ap (map text) (take_more files i file h) ∙ map-append text (take i files) (get_or files i file ∷ [])
    ∙ ap (λ w. map text (take i files) ++ (text w ∷ [])) (sym e)

pub words-at : {A : Type 0} (text : A → List ℕ) (words : List A) (i : ℕ) (word : A) → i < length words
    → word ≡ get_or words i word → map text (drop i words) ≡ text word ∷ map text (drop (i + 1) words)
words-at text words i word h e =
    let next : suc i ≡ i + 1 = omega arith in
    ap (map text) (drop-cons words i word h)
    ∙ ap₂ (λ w n. text w ∷ map text (drop n words)) (sym e) next
