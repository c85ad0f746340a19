-- BOOLEAN DEFAULT FALSE: the default value is never written (X.690 11.5).
use Rattle.std.specs.Prelude.{Bool, true, false, List, ℕ, Result, Ok, Err, Option, Some, None}
use Rattle.rpki_der.specs.declared.error.DecodeError.{DecodeError}
use Rattle.rpki_der.specs.TagName.{boolean}
use Rattle.rpki_der.specs.Values.{SpellsLeaf, IsLeafFault}
use Rattle.rpki_der.specs.Leaves.{IsOnly, boolean_contents}

-- TRUE, the one value that is written
abbrev pub SpellsTrue : Unit {0} → List ℕ → Type 0
SpellsTrue = SpellsLeaf boolean false (IsOnly (boolean_contents true))

-- the first error of a reader of it
abbrev pub IsTrueFault : List ℕ → DecodeError → Type 0
IsTrueFault = IsLeafFault boolean false (IsOnly (boolean_contents true))

-- the optional part that was read: true stands for one that is written, false for none
abbrev pub written : Result Bool DecodeError → Result (Option (Unit {0})) DecodeError
written (Ok true) = Ok (Some tt)
written (Ok false) = Ok None
written (Err e) = Err e
