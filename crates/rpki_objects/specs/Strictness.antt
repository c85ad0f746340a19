-- Which rules are asked strictly.
use Rattle.std.specs.Prelude.{true, false}
use Rattle.rpki_objects.specs.declared.strictness.Strictness.{Strictness}

-- none of them, as by default; all of them
abbrev pub none_strict : Strictness
none_strict = record { names = false; attributes = false; families = false }

abbrev pub all_strict : Strictness
all_strict = record { names = true; attributes = true; families = true }
