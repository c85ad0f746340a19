-- Words that are spread, in sequence.
use Rattle.std.proofs.Common.{◌≡◌, ◌∙◌, ℕ, Bool, false, List, [], ◌∷◌, ◌++◌, ap, append_assoc, append-nil, sym, subst}
use Rattle.std.specs.Prelude.{◌&&◌, ◌||◌, not, Option, Some, None, IfSome, bytes_eq}
use Rattle.rpki_cli.specs.Spread.{Listed, is_option, spread, spread_word}

module _ (files : List ℕ → List (List ℕ)) (option : List ℕ) (words : List (List ℕ)) where
  -- what was made of the words in front of the rest
  abbrev pub IsSpreadUpTo : (behind : Bool) → (rest done : List (List ℕ)) → Type 0
  IsSpreadUpTo behind rest done = done ++ spread files option behind rest ≡ spread files option false words

  -- one more word
  step : (behind : Bool) (word : List ℕ) (rest done : List (List ℕ)) → IsSpreadUpTo behind (word ∷ rest) done
      → IsSpreadUpTo ((behind && not (is_option word)) || bytes_eq word option) rest
      (done ++ spread_word files (behind && not (is_option word)) word)
  unfolding spread
  step behind word rest done h =
      append_assoc done (spread_word files (behind && not (is_option word)) word)
      (spread files option ((behind && not (is_option word)) || bytes_eq word option) rest) ∙ h

  pub spread-next : (behind value next : Bool) (word : List ℕ) (all rest done own new : List (List ℕ))
      → all ≡ word ∷ rest → value ≡ behind && not (is_option word) → next ≡ value || bytes_eq word option
      → own ≡ spread_word files value word → new ≡ done ++ own → IsSpreadUpTo behind all done
      → IsSpreadUpTo next rest new
  spread-next behind value next word all rest done own new is v n o e h =
      rw (e, o, n, v) (step behind word rest done
      (subst (λ (w : List (List ℕ)). IsSpreadUpTo behind w done) is h))

  pub spread-end : (behind : Bool) (rest done : List (List ℕ)) → rest ≡ [] → IsSpreadUpTo behind rest done
      → done ≡ spread files option false words
  unfolding spread
  spread-end behind rest done none h =
      sym (append-nil done) ∙ subst (λ (w : List (List ℕ)). IsSpreadUpTo behind w done) none h

-- the same, where it is known what is in folders
pub known-next : (known : Option Listed) (ending option : List ℕ) (words : List (List ℕ)) (behind value next : Bool)
    (word : List ℕ) (all rest done own new : List (List ℕ))
    → all ≡ word ∷ rest → value ≡ (behind && not (is_option word)) → next ≡ (value || bytes_eq word option)
    → IfSome known (λ l. own ≡ spread_word (l ending) value word) → new ≡ done ++ own
    → IfSome known (λ l. IsSpreadUpTo (l ending) option words behind all done)
    → IfSome known (λ l. IsSpreadUpTo (l ending) option words next rest new)
known-next None ending option words behind value next word all rest done own new is v n o e h = tt
known-next (Some l) ending option words behind value next word all rest done own new is v n o e h =
    spread-next (l ending) option words behind value next word all rest done own new is v n o e h

pub known-end : (known : Option Listed) (ending option : List ℕ) (words : List (List ℕ)) (behind : Bool)
    (rest done : List (List ℕ)) → rest ≡ []
    → IfSome known (λ l. IsSpreadUpTo (l ending) option words behind rest done)
    → IfSome known (λ l. done ≡ spread (l ending) option false words)
known-end None ending option words behind rest done none h = tt
known-end (Some l) ending option words behind rest done none h =
    spread-end (l ending) option words behind rest done none h
