-- Octets of a vCard: text that is UTF-8, and folds.
use Rattle.std.proofs.Common.{◌≡◌, ◌∙◌, ℕ, zero, suc, Bool, true, false, List, [], ◌∷◌, ◌+◌, ◌<◌, ◌≤◌}
use Rattle.std.proofs.Common.{length, drop, get_or, refl, sym, ap, arith}
use Rattle.std.specs.Str.{IsUtf8, is_utf8}
use Rattle.std.proofs.lemmas.Bool.{false≢true}
use Rattle.std.proofs.lemmas.Str.{IsUtf8-from_is_utf8}
use Rattle.std.specs.Prelude.{◌&&◌, Option, Some, None, if◌then◌else◌}
use Rattle.std.specs.Option.{is_none}
use Rattle.std.specs.Char.{eq_ignore_ascii_case}
use Rattle.std.proofs.lemmas.List.{drop_all, drop_more}
use Rattle.rpki_records.specs.Card.{is_word}
use Rattle.rpki_records.specs.Folds.{after_folds, after_folds_from, begins_fold, first_of, next_octet, unfolded}
use Rattle.rpki_records.specs.Folds.{unfolded_from}

never : (b : Bool) → (b ≡ true → ⊥) → false ≡ b
never true h = absurd (h refl)
never false h = refl

pub not_utf8 : (s : List ℕ) → (IsUtf8 s → ⊥) → false ≡ is_utf8 s
not_utf8 s h = never (is_utf8 s) (λ e. h (IsUtf8-from_is_utf8 s e))

-- ---- folds

kept-if : (b : Bool) (x : ℕ) (s t : List ℕ) → b ≡ false → (if b then s else x ∷ t) ≡ x ∷ t
kept-if true x s t e = absurd (false≢true (sym e))
kept-if false x s t e = refl

kept : (x : ℕ) (t : List ℕ) → begins_fold (x ∷ t) ≡ false → unfolded (x ∷ t) ≡ x ∷ unfolded t
kept x t e = kept-if (begins_fold (x ∷ t)) x (unfolded_from 2 t) (unfolded t) e

-- folds in front count for nothing
unfolded-after-from : (k : ℕ) (s : List ℕ) → unfolded_from k s ≡ unfolded (after_folds_from k s)
unfolded-after-from k [] = refl
unfolded-after-from zero (x ∷ s) = grind (arith, unfolded-after-from 2 s)
unfolded-after-from (suc k) (x ∷ s) = unfolded-after-from k s

pub unfolded-after : (s : List ℕ) → unfolded s ≡ unfolded (after_folds s)
unfolded-after s = unfolded-after-from 0 s

-- no fold is in front of what follows those
no-fold-from : (k : ℕ) (s : List ℕ) → begins_fold (after_folds_from k s) ≡ false
no-fold-from k [] = refl
no-fold-from zero (x ∷ s) = grind (arith, no-fold-from 2 s)
no-fold-from (suc k) (x ∷ s) = no-fold-from k s

some-same : (p q : ℕ × List ℕ) → Some p ≡ Some q → p ≡ q
some-same p q e = cc

next-is : (r : List ℕ) (x : ℕ) (t : List ℕ) → first_of r ≡ Some (x, t) → r ≡ x ∷ t
next-is [] x t e = cc
next-is (y ∷ u) x t e =
    let same : (y, u) ≡ (x, t) = some-same (y, u) (x, t) e in
    ap (λ (p : ℕ × List ℕ). p.0 ∷ p.1) same

next-none : (r : List ℕ) → first_of r ≡ None → r ≡ []
next-none [] e = refl
next-none (y ∷ u) e = cc

-- the next octet is of the text
unfolded-next : (s : List ℕ) (x : ℕ) (t : List ℕ) → next_octet s ≡ Some (x, t) → unfolded s ≡ x ∷ unfolded t
unfolded-next s x t e =
    let here : after_folds s ≡ x ∷ t = next-is (after_folds s) x t e in
    unfolded-after s ∙ ap unfolded here ∙ kept x t (sym (ap begins_fold here) ∙ no-fold-from 0 s)

unfolded-end : (s : List ℕ) → next_octet s ≡ None → unfolded s ≡ []
unfolded-end s e = unfolded-after s ∙ ap unfolded (next-none (after_folds s) e)

-- ---- words

module _ (s word : List ℕ) (i : ℕ) where
  word-next : (x : ℕ) (t : List ℕ) → next_octet s ≡ Some (x, t) → i < length word
      → is_word s (drop i word) ≡ (eq_ignore_ascii_case x (get_or word i 0) && is_word t (drop (i + 1) word))
  word-next x t e h = rw (unfolded-next s x t e, drop_more word i 0 h) refl

  pub word-differs : (x : ℕ) (t : List ℕ) → next_octet s ≡ Some (x, t) → i < length word
      → eq_ignore_ascii_case x (get_or word i 0) ≡ false → is_word s (drop i word) ≡ false
  word-differs x t e h z = word-next x t e h ∙ ap (λ (b : Bool). b && is_word t (drop (i + 1) word)) z

  pub word-goes-on : (x : ℕ) (t : List ℕ) → next_octet s ≡ Some (x, t) → i < length word
      → eq_ignore_ascii_case x (get_or word i 0) ≡ true → is_word s (drop i word) ≡ is_word t (drop (i + 1) word)
  word-goes-on x t e h z = word-next x t e h ∙ ap (λ (b : Bool). b && is_word t (drop (i + 1) word)) z

  pub word-ended : next_octet s ≡ None → i < length word → is_word s (drop i word) ≡ false
  word-ended e h = rw (unfolded-end s e, drop_more word i 0 h) refl

nothing-left : (s : List ℕ) (o : Option (ℕ × List ℕ)) → next_octet s ≡ o → is_word s [] ≡ is_none o
nothing-left s None e = rw (unfolded-end s e) refl
nothing-left s (Some p) e = rw (unfolded-next s p.0 p.1 e) refl

pub word-whole : (s word : List ℕ) (i : ℕ) → length word ≤ i → is_word s (drop i word) ≡ is_none (next_octet s)
word-whole s word i h = rw (drop_all i word h) (nothing-left s (next_octet s) refl)
