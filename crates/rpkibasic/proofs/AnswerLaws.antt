-- From the octets that were read to the input.
use Rattle.std.proofs.Common.{◌≡◌, ℕ, ◌≤◌, ◌<◌, ◌^◌, List, length, inl, inr, refl, subst, sym}
use Rattle.std.specs.Prelude.{◌⊎◌, Option, Some, None, Vec, Result, Ok, Err, IfSome, MatchResult}
use Rattle.rpkibasic.specs.declared.command.Command.{Command}
use Rattle.rpkibasic.specs.declared.fault.Fault.TheVariants.{Usage, Refused, RefusedUri, TooLong, OutOfMemory, Input}
use Rattle.rpkibasic.specs.declared.fault.Fault.TheVariants.{Output}
use Rattle.rpkibasic.specs.declared.input.Unread.{Unread}
use Rattle.rpkibasic.specs.declared.input.Unread.TheVariants.{Endless, Failed}
use Rattle.rpkibasic.specs.declared.input.Unread.TheVariants as unread
use Rattle.rpkibasic.specs.Fault.{unread_fault}
use Rattle.rpkibasic.specs.Input.{most_calls, most_octets}
use Rattle.rpkibasic.specs.Run.{Answer, Answers, Replies, IsDue, UnlessMemory, Signed, SpellsOnly, SpellsRpki}
use Rattle.rpkibasic.specs.Run.{written_algorithm}
use Rattle.rpkibasic.specs.View.{answer_of}
use Rattle.rpkibasic.specs.declared.fault.Fault.{Fault}
use Rattle.rpkibasic.specs.declared.command.Command.TheVariants.{Again}
use Rattle.rpki.specs.SignedData.{written_contents, written_signed}

-- what is given with memory is due, or the program gave up
replied : (command : Command) (octets : List ℕ) (a : Answer) → length octets ≤ most_octets most_calls
    → Answers command octets a → Replies command octets a
replied command octets (Ok text) few h = inl (h, few)
replied command octets (Err (Refused e)) few h = inl (h, few)
replied command octets (Err (RefusedUri e)) few h = inl (h, few)
replied command octets (Err TooLong) few h = inl (h, few)
replied command octets (Err OutOfMemory) few h = inr (inl refl)
replied command octets (Err Input) few h = inl (h, few)
replied command octets (Err Usage) few h = inl (h, few)
replied command octets (Err Output) few h = inl (h, few)

-- what is returned for the octets that were read is returned for the input
pub answered : (command asked : Command) (input : Option (List ℕ)) (octets : List ℕ) (a : Answer) → command ≡ asked
    → IfSome input (λ bytes. octets ≡ bytes) → length octets ≤ most_octets most_calls
    → Answers asked octets a → IfSome input (λ bytes. Replies command bytes a)
answered command asked None octets a is same few h = tt
answered command asked (Some bytes) octets a is same few h =
    subst (λ (c : Command). Replies c bytes a) (sym is)
    (subst (λ (w : List ℕ). Replies asked w a) same (replied asked octets a few h))

-- an input that was not read
pub not-read : (command : Command) (input : Option (List ℕ)) (why : Unread)
    → IfSome input (λ bytes. Replies command bytes (Err (unread_fault why)))
not-read command None why = tt
not-read command (Some bytes) Endless = inr (inr refl)
not-read command (Some bytes) (Failed e) = inr (inr refl)
not-read command (Some bytes) unread.OutOfMemory = inr (inl refl)

-- what is written of the one reading of the input
pub again-of : {Z : Type 0} (input : List ℕ) (x : Signed) (r : Result (Vec ℕ Z) Fault) → SpellsOnly SpellsRpki x input
    → MatchResult r (λ text. (length (written_contents written_algorithm x) < 2 ^ 32)
    × (text.items ≡ written_signed written_algorithm x))
    (λ f. ((f ≡ TooLong) × (2 ^ 32 ≤ length (written_contents written_algorithm x))) ⊎ (f ≡ OutOfMemory))
    → Answers Again input (answer_of r)
again-of input x (Ok text) one h = (x, one, h.0, h.1)
again-of input x (Err f) one (inl p) = subst (λ (k : Fault). UnlessMemory k (IsDue Again input (Err k))) (sym p.0)
    (x, one, p.1)
again-of input x (Err f) one (inr p) = subst (λ (k : Fault). UnlessMemory k (IsDue Again input (Err k))) (sym p) tt
