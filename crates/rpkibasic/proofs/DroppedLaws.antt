-- The rest of a list after its first element.
use Rattle.std.proofs.Common.{◌≡◌, ◌↔◌, ℕ, ◌<◌, List, [], ◌∷◌, ◌++◌, length, drop, ap, arith}
use Rattle.std.specs.Prelude.{Option, Some, None, IsSome, option_to_list}

pub drop-next : {A : Type 0} (old new : List A) (next : Option A) (n : ℕ) → n ≡ length old
    → old ≡ option_to_list next ++ new → IsSome next ↔ (0 < n) → drop 1 old ≡ new
drop-next [] new None n size is some = is
drop-next (x ∷ xs) new None n size is some = absurd (let h = some.1 (omega (arith, size)) in cc)
drop-next old new (Some x) n size is some = ap (λ w. drop 1 w) is
