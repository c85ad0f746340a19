-- What is written over octets, part by part.
use Rattle.std.proofs.Common.{◌≡◌, ℕ, ◌+◌, ◌-◌, ◌≤◌, suc, List, [], ◌∷◌, ◌++◌, length, take, drop, replicate, refl, ap}
use Rattle.std.proofs.Common.{◌∙◌, arith, length-append, length-drop}
use Rattle.std.proofs.lemmas.List.{take_at, take-replicate, length-take-le}
use Rattle.std.proofs.Common.{append_assoc}
use Rattle.rpki_rsa.specs.Encoding.{encoded_digest, digest_prefix}

-- the octets up to the end of a part that was written
up_to : (xs part ys : List ℕ) (at end : ℕ) → ys ≡ take at xs ++ part ++ drop (at + length part) xs
    → at + length part ≡ end → at ≤ length xs → take end ys ≡ take at xs ++ part
up_to xs part ys at end e h k =
    ap (take end) e ∙ take_at (take at xs ++ part) (drop (at + length part) xs) end (omega (
      arith,
      length-append (take at xs) part,
      length-take-le at xs k,
    ))

length_kept : (xs part ys : List ℕ) (at : ℕ) → ys ≡ take at xs ++ part ++ drop (at + length part) xs
    → at + length part ≤ length xs → length ys ≡ length xs
length_kept xs part ys at e h =
    omega (
      arith,
      ap length e,
      length-append (take at xs ++ part) (drop (at + length part) xs),
      length-append (take at xs) part,
      length-take-le at xs (omega arith),
      length-drop (at + length part) xs,
    )

-- the octets that begin an encoding
beginning : List ℕ
beginning = 0 ∷ 1 ∷ replicate 510 255

padding : ℕ → List ℕ
padding len = replicate (len - 54) 255

padded : (n len : ℕ) → n ≡ len - 51 - 1 → 62 ≤ len → len ≤ 512 → take n beginning ≡ (0 ∷ 1 ∷ []) ++ padding len
unfolding beginning padding
padded n len e a b =
    let more : n ≡ suc (suc (len - 54)) = omega arith in
    let rest : take (len - 54) (replicate 510 255) ≡ replicate (len - 54) 255 =
    take-replicate (len - 54) 510 255 (omega arith) in
    ap (λ z. take z beginning) more ∙ ap (λ (z : List ℕ). 0 ∷ 1 ∷ z) rest

parts_of : (digest start first second third fourth : List ℕ) (len : ℕ) → 62 ≤ len → len ≤ 512 → length digest ≡ 32
    → start ≡ replicate 512 255
    → first ≡ take 0 start ++ (0 ∷ 1 ∷ []) ++ drop (0 + length {A = ℕ} (0 ∷ 1 ∷ [])) start
    → second ≡ take (len - 51 - 1) first ++ (0 ∷ []) ++ drop (len - 51 - 1 + length {A = ℕ} (0 ∷ [])) first
    → third ≡ take (len - 51) second ++ digest_prefix ++ drop (len - 51 + length digest_prefix) second
    → fourth ≡ take (len - 32) third ++ digest ++ drop (len - 32 + length digest) third
    → take len fourth ≡ (0 ∷ 1 ∷ []) ++ padding len ++ (0 ∷ []) ++ digest_prefix ++ digest
unfolding beginning padding
parts_of digest start first second third fourth len least most size b e f g h =
    let begun : first ≡ beginning = rw b at e in
    let first_size : length first ≡ 512 = ap length begun in
    let second_size : length second ≡ 512 = length_kept first (0 ∷ []) second (len - 51 - 1) f (omega arith)
    ∙ first_size in
    let third_size : length third ≡ 512 = length_kept second digest_prefix third (len - 51) g (omega arith)
    ∙ second_size in
    up_to third digest fourth (len - 32) len h (omega arith) (omega arith)
    ∙ ap (λ z. z ++ digest) (
    up_to second digest_prefix third (len - 51) (len - 32) g (omega arith) (omega arith)
    ∙ ap (λ z. z ++ digest_prefix) (
    up_to first (0 ∷ []) second (len - 51 - 1) (len - 51) f (omega arith) (omega arith)
    ∙ ap (λ z. z ++ (0 ∷ [])) (ap (take (len - 51 - 1)) begun ∙ padded (len - 51 - 1) len refl least most)
    )
    )

pub encoding_is : (digest start first second third fourth : List ℕ) (len : ℕ) → 62 ≤ len → len ≤ 512
    → length digest ≡ 32
    → start ≡ replicate 512 255
    → first ≡ take 0 start ++ (0 ∷ 1 ∷ []) ++ drop (0 + length {A = ℕ} (0 ∷ 1 ∷ [])) start
    → second ≡ take (len - 51 - 1) first ++ (0 ∷ []) ++ drop (len - 51 - 1 + length {A = ℕ} (0 ∷ [])) first
    → third ≡ take (len - 51) second ++ digest_prefix ++ drop (len - 51 + length digest_prefix) second
    → fourth ≡ take (len - 32) third ++ digest ++ drop (len - 32 + length digest) third
    → take len fourth ≡ encoded_digest digest len
unfolding beginning padding
encoding_is digest start first second third fourth len least most size b e f g h =
    parts_of digest start first second third fourth len least most size b e f g h
    ∙ append_assoc ((0 ∷ 1 ∷ []) ++ padding len ++ (0 ∷ [])) digest_prefix digest
    ∙ (let same : len - 54 ≡ len - length (digest_prefix ++ digest) - 3 =
    omega (arith, length-append digest_prefix digest, size) in
    ap (λ z. (0 ∷ 1 ∷ []) ++ replicate z 255 ++ (0 ∷ []) ++ (digest_prefix ++ digest)) same)
