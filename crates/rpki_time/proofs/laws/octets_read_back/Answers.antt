use Rattle.std.proofs.Common.{◌≡◌, ℕ, Result, Ok, Err, IfOk, IsOk, ◌∙◌, ap}
use Rattle.rpki_time.proofs.laws.octets_read_back.Goals as goal

read : {E : Type 0} (r : Result ℕ E) (n m : ℕ) → n ≡ m → IfOk r (λ s. s ≡ n) → IsOk r → r ≡ Ok m
read (Ok s) n m e v k = ap Ok (v ∙ e)
read (Err x) n m e v k = absurd (cc)

pub returns : goal.returns
returns c = read c.from_array.result _ _ c.into_array.ensures.value c.from_array.ensures.value
    (c.from_array.ensures.succeeds.1 c.into_array.ensures.first_bit)
