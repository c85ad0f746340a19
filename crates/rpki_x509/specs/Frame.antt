-- One value in constructed form.
use Rattle.std.specs.Prelude.{true, ℕ, List}
use Rattle.rpki_der.specs.declared.error.DecodeError.{DecodeError}
use Rattle.rpki_der.specs.Prelude.{TagName, Format, SpellsContents, IsContentsFault, IsWholeFault}

-- the contents of a value of this tag in constructed form, which begins the octets; and of one that is all of them
abbrev pub frame : TagName → Format (List ℕ)
frame t = record { spells = SpellsContents t true; fault = IsContentsFault t true }

abbrev pub IsFrameFault : TagName → List ℕ → DecodeError → Type 0
IsFrameFault t = IsWholeFault (SpellsContents t true) (IsContentsFault t true)
