-- The segments and the mark of a path give its text back.
use Rattle.std.specs.Prelude.{◌≡◌, ℕ, true, false, List, [], ◌∷◌, ◌++◌, refl}
use Rattle.std.proofs.Common.{cond, ap, ◌∙◌}
use Rattle.std.specs.List.{onto_first, join_with_byte}
use Rattle.std.proofs.lemmas.List.Splits.{join_with_byte-slice_split}
use Rattle.rpki_text.specs.Segments.{is_slash, pieces, names_of, has_empty_last, segments, is_dir, path_text}

-- a list that is not empty
pub record IsFilled (ps : List (List ℕ)) : Type 0 where
  pub first : List ℕ
  pub others : List (List ℕ)
  pub is : ps ≡ first ∷ others

onto-first-filled : (b : ℕ) (ps : List (List ℕ)) → IsFilled (onto_first b ps)
onto-first-filled b [] = record { first = b ∷ []; others = []; is = refl }
onto-first-filled b (p ∷ ps) = record { first = b ∷ p; others = ps; is = refl }

pub pieces-filled : (t : List ℕ) → IsFilled (pieces t)
pieces-filled [] = record { first = []; others = []; is = refl }
pieces-filled (b ∷ bs) =
    elim (is_slash b) as (λ v. IsFilled (cond v ([] ∷ pieces bs) (onto_first b (pieces bs)))) [
      | true ↦ record { first = []; others = pieces bs; is = refl }
      | false ↦ onto-first-filled b (pieces bs)
    ]

-- the pieces are the names, and an empty one where it was left out
names_of-whole : (ps : List (List ℕ)) → IsFilled ps → names_of ps ++ cond (has_empty_last ps) ([] ∷ []) [] ≡ ps
names_of-whole [] f = cc
names_of-whole ([] ∷ []) f = refl
names_of-whole ((b ∷ bs) ∷ []) f = refl
names_of-whole ([] ∷ q ∷ qs) f =
    ap (λ s. [] ∷ s) (names_of-whole (q ∷ qs) (record { first = q; others = qs; is = refl }))
names_of-whole ((b ∷ bs) ∷ q ∷ qs) f =
    ap (λ s. (b ∷ bs) ∷ s) (names_of-whole (q ∷ qs) (record { first = q; others = qs; is = refl }))

pub path_text-segments : (t : List ℕ) → path_text (segments t) (is_dir t) ≡ t
unfolding path_text segments is_dir
path_text-segments t = ap (join_with_byte 47) (names_of-whole (pieces t) (pieces-filled t))
    ∙ join_with_byte-slice_split 47 t
