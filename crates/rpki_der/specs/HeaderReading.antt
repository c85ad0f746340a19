-- The header at the front of octets, as a function: it reads them from the left. By it a type that keeps octets says
-- what they stand for (Front.antt), and the loops of the readers say what they keep. The proofs show that it finds the
-- headers of Header.antt and their faults.
use Rattle.std.specs.Prelude.{ℕ, zero, suc, Bool, ◌+◌, ◌-◌, ◌*◌, ◌/◌, ◌%◌, ◌==◌, ◌&&◌, ◌||◌, nat_lt, if◌then◌else◌}
use Rattle.std.specs.Prelude.{List, [], ◌∷◌, Result, Ok, Err}
use Rattle.rpki_der.specs.declared.error.DecodeError.{DecodeError}
use Rattle.rpki_der.specs.declared.error.DecodeError.TheVariants.{Truncated, BadTag, BadLength}
use Rattle.rpki_der.specs.declared.tag.Class.{Class}
use Rattle.rpki_der.specs.declared.tag.Class.TheVariants.{Universal, Application, Context, Private}
use Rattle.rpki_der.specs.declared.tag.Header.{Header}
use Rattle.rpki_der.specs.TagName.{TagName, tag_of}

infixl 10 ◌>>=◌
abbrev pub ◌>>=◌ : {A B : Type 0} → Result A DecodeError → (A → Result B DecodeError) → Result B DecodeError
(Ok x) >>= f = f x
(Err e) >>= f = Err e

-- a tag's number from n on, in at most k further octets
unfoldable pub number_at : ℕ → ℕ → List ℕ → Result (ℕ × List ℕ) DecodeError
number_at zero n s = Err BadTag
number_at (suc k) n [] = Err Truncated
number_at (suc k) n (b ∷ s) =
    if nat_lt b 128
    then (if nat_lt (n * 128 + b) 31 then Err BadTag else Ok (n * 128 + b, s))
    else (if n * 128 + (b - 128) == 0 then Err BadTag else number_at k (n * 128 + (b - 128)) s)

abbrev pub class_at : ℕ → Class
class_at zero = Universal
class_at (suc zero) = Application
class_at (suc (suc zero)) = Context
class_at (suc (suc (suc n))) = Private

unfoldable pub identifier_at : List ℕ → Result ((TagName × Bool) × List ℕ) DecodeError
identifier_at [] = Err Truncated
identifier_at (b ∷ s) =
    if nat_lt (b % 32) 31
    then (if (b / 64 == 0) && (b % 32 == 0) then Err BadTag
    else Ok ((tag_of (class_at (b / 64)) (b % 32), b / 32 % 2 == 1), s))
    else (number_at 4 0 s >>= λ n. Ok ((tag_of (class_at (b / 64)) n.0, b / 32 % 2 == 1), n.1))

-- a length from n on, in k further octets
unfoldable pub octets_at : ℕ → ℕ → List ℕ → Result (ℕ × List ℕ) DecodeError
octets_at zero n s = if nat_lt n 128 then Err BadLength else Ok (n, s)
octets_at (suc k) n [] = Err Truncated
octets_at (suc k) n (b ∷ s) = if n * 256 + b == 0 then Err BadLength else octets_at k (n * 256 + b) s

unfoldable pub length_at : List ℕ → Result (ℕ × List ℕ) DecodeError
length_at [] = Err Truncated
length_at (b ∷ s) =
    if nat_lt b 128 then Ok (b, s) else
    if (b == 128) || nat_lt 132 b then Err BadLength else octets_at (b - 128) 0 s

unfoldable pub header_at : List ℕ → Result (Header × List ℕ) DecodeError
header_at s = do
  i ← identifier_at s
  l ← length_at i.1
  Ok (record { tag = i.0.0; constructed = i.0.1; length = l.0 }, l.1)
