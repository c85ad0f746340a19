-- What becomes of the program's arguments.
use Rattle.std.proofs.Common.{◌≡◌, ℕ, List, map, string_bytes, subst}
use Rattle.std.specs.Prelude.{Err, IfErr, IfOk, Ok, Result, String, drop}
use Rattle.rpki_cli.specs.World.{World}
use Rattle.rpkicert.specs.declared.arguments.Wordless.{Wordless}
use Rattle.rpkicert.specs.declared.arguments.Wordless.TheVariants.{OutOfMemory}
use Rattle.rpkicert.specs.Arguments.{wordless_text}
use Rattle.rpkicert.specs.Moment.{Clock}
use Rattle.rpkicert.specs.Program.{IsProgram, Starved}
use Rattle.rpkicert.specs.Run.{Holds}
use Rattle.rpkicert.specs.Under.{Lists}
use Rattle.rpkicert.specs.Words.{Complains}

-- ---- with arguments

module _ {A E Z : Type 0} (arguments : Result A E) (all : A → List (String Z)) (help_text version_text : List ℕ)
    (lists : Lists) (holds : Holds) (clock : Clock) (old new : World) (status : ℕ) where
  -- the run that these words ask for
  abbrev Runs : List (String Z) → Type 0
  Runs words = IsProgram help_text version_text (map string_bytes words) lists holds clock old new status

  -- of those that were made
  pub of-words : (words : List (String Z)) → IfOk arguments (λ a. words ≡ drop 1 (all a)) → Runs words
      → IfOk arguments (λ a. Runs (drop 1 (all a)))
  of-words words = by-arguments arguments
    where
      by-arguments : (r : Result A E) → IfOk r (λ a. words ≡ drop 1 (all a)) → Runs words
          → IfOk r (λ a. Runs (drop 1 (all a)))
      by-arguments (Ok a) e h = subst Runs e h
      by-arguments (Err e) f h = tt

  -- or there was no memory for them
  pub no-memory : (wordless : Wordless) → IfOk arguments (λ a. wordless ≡ OutOfMemory)
      → Complains old new (wordless_text wordless) status → IfOk arguments (λ a. Runs (drop 1 (all a)))
  no-memory wordless = by-arguments arguments
    where
      by-arguments : (r : Result A E) → IfOk r (λ a. wordless ≡ OutOfMemory)
          → Complains old new (wordless_text wordless) status → IfOk r (λ a. Runs (drop 1 (all a)))
      by-arguments (Ok a) e h = Starved (subst (λ (w : Wordless). Complains old new (wordless_text w) status) e h)
      by-arguments (Err e) f h = tt

-- ---- without arguments

-- there are no words
pub no-fault : {A E X W : Type 0} (arguments : Result A E) (words : X) (fault : E → W) (P : E → Type 0)
    → IfErr arguments (λ e. Ok words ≡ Err (fault e)) → IfErr arguments P
no-fault (Ok a) words fault P h = tt
no-fault (Err e) words fault P h = absurd (let r = h in cc)

-- the fault is told
pub told-fault : {A E X : Type 0} (arguments : Result A E) (made : Result X Wordless) (wordless : Wordless)
    (fault : E → Wordless) (old new : World) (status : ℕ) → made ≡ Err wordless
    → IfErr arguments (λ e. made ≡ Err (fault e)) → Complains old new (wordless_text wordless) status
    → IfErr arguments (λ e. Complains old new (wordless_text (fault e)) status)
told-fault (Ok a) made wordless fault old new status m f h = tt
told-fault (Err e) made wordless fault old new status m f h =
    let same : wordless ≡ fault e = (let r = f in cc) in
    subst (λ (w : Wordless). Complains old new (wordless_text w) status) same h
