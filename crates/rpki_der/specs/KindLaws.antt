-- Lemmas: a word of 32 bits and what it stands for.
use Rattle.std.proofs.Common.{◌≡◌, ℕ, zero, suc, ◌/◌, ◌%◌, ◌^◌, ◌<◌, eqb, refl, arith}
use Rattle.rpki_der.specs.Header.{class_number, form_number}
use Rattle.rpki_der.specs.HeaderReading.{class_at}
use Rattle.rpki_der.specs.Kind.{word_of, kind_of}

pub class-takes : (n : ℕ) → n < 4 → class_number (class_at n) ≡ n
class-takes zero lt = refl
class-takes (suc zero) lt = refl
class-takes (suc (suc zero)) lt = refl
class-takes (suc (suc (suc zero))) lt = refl
class-takes (suc (suc (suc (suc n)))) lt = absurd (omega arith)

pub form-takes : (n : ℕ) → n < 2 → form_number (eqb n 1) ≡ n
form-takes zero lt = refl
form-takes (suc zero) lt = refl
form-takes (suc (suc n)) lt = absurd (omega arith)

-- the word of what a word stands for
pub word-again : (w : ℕ) → w < 2 ^ 32 → word_of (kind_of w) ≡ w
word-again w lt =
    let c = class-takes (w / 2 ^ 28 % 4) (omega arith) in
    let f = form-takes (w / 2 ^ 30 % 2) (omega arith) in
    let i = form-takes (w / 2 ^ 31) (omega arith) in
    omega (arith, c, f, i)
