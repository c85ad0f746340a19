-- A text without its white space, line by line.
use Rattle.std.proofs.Common.{◌≡◌, ℕ, Bool, true, false, List, [], ◌∷◌, ◌++◌, ◌+◌, ◌∙◌, take, drop, refl, ap}
use Rattle.std.proofs.Common.{append_assoc, sym, suc, subst, arith}
use Rattle.std.specs.List.{prefix_len}
use Rattle.rpki_base64.specs.Base64Text.{is_no_white_space, without_white_space}

-- s is the line before its first white space, and what follows that
abbrev pub IsSplit : List ℕ → Type 0
IsSplit s = without_white_space s ≡ take (prefix_len is_no_white_space s) s
    ++ without_white_space (drop 1 (drop (prefix_len is_no_white_space s) s))

by-first : (x : ℕ) (xs : List ℕ) (b : Bool) → is_no_white_space x ≡ b → IsSplit xs → IsSplit (x ∷ xs)
by-first x xs true h rest =
    let k = prefix_len is_no_white_space xs in
    let more : suc k ≡ 1 + k = omega arith in
    rw h (subst (λ (n : ℕ). x ∷ without_white_space xs
    ≡ take n (x ∷ xs) ++ without_white_space (drop 1 (drop n (x ∷ xs)))) more
    (ap (λ (t : List ℕ). x ∷ t) rest))
by-first x xs false h rest = rw h refl

pub is-split : (s : List ℕ) → IsSplit s
is-split [] = refl
is-split (x ∷ xs) = by-first x xs (is_no_white_space x) refl (is-split xs)

-- so a copy of all lines up to s goes on with that line
pub goes-on : (done all s line next : List ℕ) (n : ℕ) → done ++ without_white_space s ≡ all
    → n ≡ prefix_len is_no_white_space s → line ≡ take n s → next ≡ drop 1 (drop n s)
    → (done ++ line) ++ without_white_space next ≡ all
goes-on done all s line next n so_far is front back = rw front (rw back (rw is
    (append_assoc done _ _ ∙ ap (λ (t : List ℕ). done ++ t) (sym (is-split s)) ∙ so_far)))
