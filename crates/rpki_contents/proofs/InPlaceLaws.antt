-- Parts that are read in place, by readers that take no memory.
use Rattle.std.proofs.Common.{◌≡◌, ◌≢◌, ◌<◌, ◌==◌, ℕ, Bool, true, false, List, [], ◌∷◌, length}
use Rattle.std.proofs.Common.{Option, None, Some, refl, ap, subst, arith}
use Rattle.std.proofs.lemmas.Bool.Decides.{nat_tests}
use Rattle.std.specs.Prelude.{IfSome}
use Rattle.rpki_der.specs.declared.error.DecodeError.{DecodeError}
use Rattle.rpki_der.specs.declared.error.DecodeError.TheVariants.{OutOfMemory}
use Rattle.rpki_der.specs.Prelude.{Refusal, Refuses}
use Rattle.rpki_der.proofs.PartsLaws.{Kind}
use Rattle.rpki_der.proofs.InsideLaws.{unless-memory}

-- an error of a reader that takes no memory
pub refused : {V : Type 0} (G : V → List ℕ → Type 0) (K : Kind) (s r : List ℕ) (e : DecodeError)
    → (K s OutOfMemory → ⊥) → Refusal G K s r e → Refuses G s
refused G K s r e never h = unless-memory e (λ z. never (subst (K s) z h.kind)) h.refuses

-- ---- whether octets remain

pub left-some : (xs : List ℕ) (b : Bool) → b ≡ (length xs == 0) → b ≡ false → xs ≢ []
left-some xs b e f z = let k : 0 < length xs = grind (arith, nat_tests, e, f) in omega (arith, ap length z, k)

pub left-none : (xs : List ℕ) (b : Bool) → b ≡ (length xs == 0) → b ≡ true → xs ≡ []
left-none [] b e f = refl
left-none (x ∷ xs) b e f =
    let k : length (x ∷ xs) ≡ 0 = grind (arith, nat_tests, e, f) in absurd (omega (arith, k))

-- ---- what is handed on

pub some-weaker : {V : Type 0} {P Q : V → Type 0} (x : Option V) → ((v : V) → P v → Q v) → IfSome x P → IfSome x Q
some-weaker None f h = h
some-weaker (Some v) f h = f v h
