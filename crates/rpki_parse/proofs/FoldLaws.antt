-- How a loop over values goes on.
use Rattle.std.proofs.Common.{◌≡◌, ◌≢◌, ℕ, zero, suc, ◌+◌, ◌<◌, ◌≤◌, Bool, true, false, List, [], ◌∷◌, length, refl}
use Rattle.std.proofs.Common.{◌∙◌}
use Rattle.std.proofs.Common.{arith, Result, Ok, Err, nat_lt, if◌then◌else◌}
use Rattle.std.proofs.lemmas.Bool.{lt-ltb}
use borrow.Author.Tests.{ltb-true}
use Rattle.rpki_parse.specs.Words.{bind}
use Rattle.rpki_parse.specs.Fold.{fold_n, fold_at}

module _ {S : Type 0} (f : S → List ℕ → Result (S × List ℕ) ℕ) where
  abbrev tail : ℕ → ℕ → List ℕ → S × List ℕ → Result (S × ℕ) ℕ
  tail n k xs next = if nat_lt (length next.1) (suc (length xs)) then fold_n f n next.0 (k + 1) next.1 else Err 6

  abbrev SameFuel : ℕ → ℕ → Type 0
  SameFuel n m = (st : S) (k : ℕ) (s : List ℕ) → length s ≤ n → length s ≤ m → fold_n f n st k s ≡ fold_n f m st k s

  fold-tail : (n m k : ℕ) (xs : List ℕ) → SameFuel n m → (next : S × List ℕ) (b : Bool)
      → nat_lt (length next.1) (suc (length xs)) ≡ b → length xs ≤ n → length xs ≤ m
      → (if b then fold_n f n next.0 (k + 1) next.1 else Err 6)
      ≡ (if b then fold_n f m next.0 (k + 1) next.1 else Err 6)
  fold-tail n m k xs same next true e a b =
      let lt = ltb-true (length next.1) (suc (length xs)) e in same next.0 (k + 1) next.1 (omega arith) (omega arith)
  fold-tail n m k xs same next false e a b = refl

  fold-bind : (n m k : ℕ) (xs : List ℕ) → SameFuel n m → (x : Result (S × List ℕ) ℕ) → length xs ≤ n → length xs ≤ m
      → bind x (tail n k xs) ≡ bind x (tail m k xs)
  fold-bind n m k xs same (Err e) a b = refl
  fold-bind n m k xs same (Ok next) a b =
      fold-tail n m k xs same next (nat_lt (length next.1) (suc (length xs))) refl a b

  fold-fuel : (n m : ℕ) → SameFuel n m
  fold-fuel n m st k [] a b = refl
  fold-fuel zero m st k (x ∷ xs) a b = absurd (omega arith)
  fold-fuel (suc n) zero st k (x ∷ xs) a b = absurd (omega arith)
  fold-fuel (suc n) (suc m) st k (x ∷ xs) a b =
      fold-bind n m k xs (fold-fuel n m) (f st (x ∷ xs)) (omega arith) (omega arith)

  -- the rest, after k values with this state, makes g
  abbrev pub Makes : Result (S × ℕ) ℕ → S → ℕ → List ℕ → Type 0
  Makes g st k s = fold_n f (length s) st k s ≡ g

  pub fold_begins : (st : S) (s : List ℕ) → Makes (fold_at f st s) st 0 s
  unfolding fold_at
  fold_begins st s = refl

  pub fold_kept : (g : Result (S × ℕ) ℕ) (st next : S) (k : ℕ) (s r : List ℕ) → s ≢ [] → Ok (next, r) ≡ f st s
      → length r < length s → Makes g st k s → Makes g next (k + 1) r
  fold_kept g st next k [] r some e lt same = absurd (some refl)
  fold_kept g st next k (x ∷ xs) r some e lt same =
      let step = fold-fuel (length r) (length xs) next (k + 1) r (omega arith) (omega arith) in
      step ∙ rw (← e, lt-ltb (length r) (suc (length xs)) lt) at same

  pub fold_ended : (g : Result (S × ℕ) ℕ) (st : S) (k : ℕ) (s : List ℕ) → s ≡ [] → Makes g st k s → Ok (st, k) ≡ g
  fold_ended g st k s end same = rw end at same

  pub fold_failed : (g : Result (S × ℕ) ℕ) (st : S) (k : ℕ) (s : List ℕ) (n : ℕ) → s ≢ [] → Err n ≡ f st s
      → Makes g st k s → Err n ≡ g
  fold_failed g st k [] n some e same = absurd (some refl)
  fold_failed g st k (x ∷ xs) n some e same = rw (← e) at same
