-- The first values of some octets, one more each time.
use Rattle.std.proofs.Common.{◌≡◌, ◌∙◌, ◌+◌, ℕ, zero, suc, List, ◌++◌, refl, sym, ap, arith}
use Rattle.std.proofs.lemmas.List.{append-nil, append_assoc}
use Rattle.std.specs.Prelude.{Option}
use Rattle.rpki_records.specs.Words.{firsts, where_there}

-- what follows the first n values
abbrev pub rest_after : {A : Type 0} → (List ℕ → Option A × List ℕ) → ℕ → List ℕ → List ℕ
rest_after given zero s = s
rest_after given (suc n) s = rest_after given n (given s).1

pub rest_next : {A : Type 0} (given : List ℕ → Option A × List ℕ) (n : ℕ) (s : List ℕ)
    → rest_after given (suc n) s ≡ (given (rest_after given n s)).1
rest_next given zero s = refl
rest_next given (suc n) s = rest_next given n (given s).1

pub firsts_next : {A : Type 0} (given : List ℕ → Option A × List ℕ) (n : ℕ) (s : List ℕ)
    → firsts given (suc n) s ≡ firsts given n s ++ where_there (given (rest_after given n s)).0
firsts_next given zero s = append-nil (where_there (given s).0)
firsts_next {A} given (suc n) s =
    ap (λ (xs : List A). where_there (given s).0 ++ xs) (firsts_next given n (given s).1)
    ∙ sym (append_assoc (where_there (given s).0) (firsts given n (given s).1) _)

-- a loop that adds the next value to those that it has
pub next_first : {A : Type 0} (given : List ℕ → Option A × List ℕ) (n : ℕ) (s : List ℕ) (xs ys : List A) (o : Option A)
    (r t : List ℕ) → xs ≡ firsts given n s → r ≡ rest_after given n s → (o, t) ≡ given r → ys ≡ xs ++ where_there o
    → (ys ≡ firsts given (n + 1) s) × (t ≡ rest_after given (n + 1) s)
next_first {A} given n s xs ys o r t e f g h =
    let same : n + 1 ≡ suc n = omega arith in
    let here : (o, t) ≡ given (rest_after given n s) = g ∙ ap given f in
    rw same (
      h ∙ ap (λ (w : List A). w ++ where_there o) e
          ∙ ap (λ (w : Option A). firsts given n s ++ where_there w) (ap (λ (p : Option A × List ℕ). p.0) here)
          ∙ sym (firsts_next given n s),
      ap (λ (p : Option A × List ℕ). p.1) here ∙ sym (rest_next given n s),
    )
