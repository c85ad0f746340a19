-- Values, in sequence, each read in the light of those before it (X.690 8.10, 8.12).
use Rattle.std.specs.Prelude.{ℕ, zero, suc, ◌+◌, List, [], ◌∷◌, Result, Ok, Err, if◌then◌else◌, length, nat_lt}
use Rattle.rpki_parse.specs.Words.{bind}

-- k values were read, and n octets at most remain
abbrev pub fold_n : {S : Type 0} → (S → List ℕ → Result (S × List ℕ) ℕ) → ℕ → S → ℕ → List ℕ → Result (S × ℕ) ℕ
fold_n f n state k [] = Ok (state, k)
fold_n f zero state k (x ∷ xs) = Err 6
fold_n f (suc n) state k (x ∷ xs) =
    bind (f state (x ∷ xs)) (λ next.
    if nat_lt (length next.1) (suc (length xs)) then fold_n f n next.0 (k + 1) next.1 else Err 6)

-- all of s: what is known with the last, and how many there are; a value that takes no octets is error 6
unfoldable pub fold_at : {S : Type 0} → (S → List ℕ → Result (S × List ℕ) ℕ) → S → List ℕ → Result (S × ℕ) ℕ
fold_at f state s = fold_n f (length s) state 0 s
