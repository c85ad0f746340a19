-- Parts that may be left out, and a choice: the tag in front decides.
use Rattle.std.specs.Prelude.{Bool, Option, Some, None, Ok, Err, if◌then◌else◌}
use Rattle.rpki_der.specs.TagName.{TagName, boolean}
use Rattle.rpki_parse.specs.Words.{Parser, bind}
use Rattle.rpki_parse.specs.Value.{tagged}
use Rattle.rpki_parse.specs.Leaf.{leaf_at, boolean_in}

-- CHOICE: the first where its tag is in front, else the second (X.690 8.13)
abbrev pub choice_at : {V : Type 0} → TagName → Parser V → Parser V → Parser V
choice_at t first second s = if tagged t s then first s else second s

-- DEFAULT: where the tag isn't in front it is this value, and nothing is read
abbrev pub default_at : {V : Type 0} → TagName → V → Parser V → Parser V
default_at t v p = choice_at t p (λ s. Ok (v, s))

-- OPTIONAL
abbrev pub optional_at : {V : Type 0} → TagName → Parser V → Parser (Option V)
optional_at t p = choice_at t (λ s. bind (p s) (λ v. Ok (Some v.0, v.1))) (λ s. Ok (None, s))

-- a BOOLEAN whose default is FALSE, where it is written: it is TRUE (X.690 11.5)
abbrev pub true_at : Parser Bool
true_at s = bind (leaf_at boolean boolean_in s) (λ b. if b.0 then Ok b else Err 5)
