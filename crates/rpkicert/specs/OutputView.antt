-- What clauses see of what is shown.
use Rattle.std.specs.Prelude.{ℕ, Bool, List, ◌++◌, max, Option, Some, None, Result, Ok, Err, Vec, []}
use Rattle.rpkicert.specs.declared.output.Output.{Output}
use Rattle.rpkicert.specs.Output.{OutputParts, shown_parts, IsSeenIn, IsSeenEach}
use Rattle.rpkicert.specs.Requirements.{TermParts}
use Rattle.rpki_fields.specs.declared.rendering.Form.{Form}
use Rattle.rpkicert.specs.Words.{memory_text}

abbrev pub parts_of : Output → OutputParts
parts_of s = shown_parts s.output.items s.faults.items s.status

-- where there was no memory, that is said
abbrev pub seen_of : {E : Type 0} → Result Output E → OutputParts
seen_of (Ok s) = parts_of s
seen_of (Err e) = shown_parts [] memory_text 2

-- the text, or, where there was no memory to make it, that
abbrev pub text_in : {Z E : Type 0} → Result (Vec ℕ Z) E → List ℕ
text_in (Ok text) = text.items
text_in (Err e) = memory_text

-- what was seen before, and one more
abbrev pub and_also : OutputParts → OutputParts → OutputParts
and_also all s = shown_parts (all.output ++ s.output) (all.faults ++ s.faults) (max all.status s.status)

-- of each of these texts, or, without them, of all of the input
abbrev pub IsSeenBy : (check : Bool) → Form → TermParts → List ℕ → (input : List ℕ) → Option (List (List ℕ))
    → OutputParts → Type 0
IsSeenBy check form terms name input None s = IsSeenIn check form terms name input s
IsSeenBy check form terms name input (Some texts) s = IsSeenEach check form terms name texts s
