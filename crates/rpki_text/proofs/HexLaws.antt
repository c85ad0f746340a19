-- Two digits written after what is there already.
use Rattle.std.proofs.Common.{◌≡◌, ℕ, Bool, true, false, cond, nat_lt, Fits, w8, IsUtf8, ◌+◌, ◌*◌, ◌/◌, ◌%◌, ◌<◌, ◌≤◌}
use Rattle.std.proofs.Common.{List, [], ◌∷◌, ◌++◌, length, get_or, take, drop, suc, zero, sym, refl, ap, ◌∙◌, arith}
use Rattle.std.proofs.lemmas.Str.{IsUtf8-from_ascii}
use Rattle.std.proofs.Math.Seq.{take-append_seam}
use Rattle.std.proofs.Math.ListN.{set}
use Rattle.std.proofs.lemmas.List.{take_more, drop_more, length-take-le, length-append, append_assoc}
use Rattle.rpki_text.specs.HexText.{hex_digit, hex_text}

pub length-hex_text : (t : List ℕ) → length (hex_text t) ≡ 2 * length t
length-hex_text [] = refl
length-hex_text (b ∷ t) = let ih = length-hex_text t in omega arith

pub hex_text-append : (s t : List ℕ) → hex_text (s ++ t) ≡ hex_text s ++ hex_text t
hex_text-append [] t = refl
hex_text-append (b ∷ s) t = ap (λ r. hex_digit (b / 16) ∷ hex_digit (b % 16) ∷ r) (hex_text-append s t)

set-at : (f : List ℕ) (x : ℕ) (rest : List ℕ) (n y : ℕ) → n ≡ length f → set (f ++ x ∷ rest) n y ≡ f ++ y ∷ rest
set-at f x rest n y e = rw e (at_end f) where
  at_end : (f : List ℕ) → set (f ++ x ∷ rest) (length f) y ≡ f ++ y ∷ rest
  at_end [] = refl
  at_end (z ∷ f) = ap (λ r. z ∷ r) (at_end f)

pub write-pair : (f : List ℕ) (x y : ℕ) (rest : List ℕ) (n hi lo : ℕ) → n ≡ length f
    → set (set (f ++ x ∷ y ∷ rest) n hi) (n + 1) lo ≡ f ++ hi ∷ lo ∷ rest
write-pair f x y rest n hi lo e =
    ap (λ s. set s (n + 1) lo) (set-at f x (y ∷ rest) n hi e ∙ sym (append_assoc f (hi ∷ []) (y ∷ rest)))
    ∙ set-at (f ++ hi ∷ []) y rest (n + 1) lo (omega (arith, length-append f (hi ∷ [])))
    ∙ append_assoc f (hi ∷ []) (lo ∷ rest)

-- one more octet
pub hex-step : (src dest old : List ℕ) (i : ℕ) → i < length src → 2 * length src ≤ length old
    → dest ≡ hex_text (take i src) ++ drop (2 * i) old
    → set (set dest (2 * i) (hex_digit (get_or src i 0 / 16))) (2 * i + 1) (hex_digit (get_or src i 0 % 16)) ≡ hex_text
    (take (i + 1) src) ++ drop (2 * (i + 1)) old
hex-step src dest old i l w e =
    let one : drop (2 * i) old ≡ get_or old (2 * i) 0 ∷ drop (2 * i + 1) old = drop_more old (2 * i) 0 (omega arith) in
    let two : drop (2 * i + 1) old ≡ get_or old (2 * i + 1) 0 ∷ drop (2 * i + 1 + 1) old = drop_more old (2 * i + 1) 0
    (omega arith) in
    let size : 2 * i ≡ length (hex_text (take i src)) = omega
    (arith, length-hex_text (take i src), length-take-le i src (omega arith)) in
    ap (λ s. set (set s (2 * i) (hex_digit (get_or src i 0 / 16))) (2 * i + 1) (hex_digit (get_or src i 0 % 16)))
    (e ∙ ap (λ r. hex_text (take i src) ++ r) (one ∙ ap (λ r. get_or old (2 * i) 0 ∷ r) two))
    ∙ write-pair (hex_text (take i src)) _ _ (drop (2 * i + 1 + 1) old) (2 * i) _ _ size
    ∙ sym (append_assoc (hex_text (take i src)) (hex_digit (get_or src i 0 / 16) ∷ hex_digit (get_or src i 0 % 16) ∷ [])
    (drop (2 * i + 1 + 1) old))
    ∙ ap (λ f. f ++ drop (2 * i + 1 + 1) old)
    (sym (hex_text-append (take i src) (get_or src i 0 ∷ [])) ∙ ap hex_text (sym (take_more src i 0 l)))
    ∙ ap (λ n. hex_text (take (i + 1) src) ++ drop n old) (omega arith)

digit-ascii : (n : ℕ) → n < 16 → hex_digit n < 128
digit-ascii n h = by_cases (nat_lt n 10) refl where
  by_cases : (b : Bool) → nat_lt n 10 ≡ b → cond b (48 + n) (55 + n) < 128
  by_cases true e = omega arith
  by_cases false e = omega arith

hex_text-ascii : (t : List ℕ) → ((i : ℕ) → Fits w8 (get_or t i 0)) → (i : ℕ) → get_or (hex_text t) i 0 < 128
hex_text-ascii [] h i = omega arith
hex_text-ascii (b ∷ t) h zero = let small : b < 256 = omega (arith, h 0) in digit-ascii (b / 16) (omega arith)
hex_text-ascii (b ∷ t) h (suc zero) = digit-ascii (b % 16) (omega arith)
hex_text-ascii (b ∷ t) h (suc (suc i)) = hex_text-ascii t (λ k. h (suc k)) i

pub IsUtf8-hex_text : (t : List ℕ) → ((i : ℕ) → Fits w8 (get_or t i 0)) → IsUtf8 (hex_text t)
IsUtf8-hex_text t h = IsUtf8-from_ascii (hex_text t) (hex_text-ascii t h)

-- the front of a buffer that was written over
pub hex-front : (t dest rest : List ℕ) → dest ≡ hex_text t ++ rest
    → (2 * length t ≤ length dest) × (take (2 * length t) dest ≡ hex_text t)
hex-front t dest rest e = (
  omega (arith, ap length e, length-append (hex_text t) rest, length-hex_text t),
  ap (take (2 * length t)) e ∙ ap (λ n. take n (hex_text t ++ rest)) (sym (length-hex_text t)) ∙ take-append_seam
      (hex_text t) rest,
)
