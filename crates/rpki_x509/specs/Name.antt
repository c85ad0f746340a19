-- A name that is read in place, as a section.
use Rattle.std.specs.Prelude.{ℕ, List, Result, Ok, Err}
use Rattle.rpki_der.specs.declared.error.DecodeError.{DecodeError}
use Rattle.rpki_der.specs.declared.section.Section.{Section}
use Rattle.rpki_der.specs.Prelude.{Accepts, Refusal, IsSection}
use Rattle.rpki.specs.Name.{SpellsNameOctets}
use Rattle.rpki.specs.NameFault.{borrowed_name}

-- a reader of a name found s and left r: Ok is its section; and an error says that there is none, and why
abbrev pub TakesName : List ℕ → List ℕ → Result Section DecodeError → Type 0
TakesName s r (Ok p) = (v : List ℕ) × Accepts SpellsNameOctets s v r × IsSection p v r
TakesName s r (Err e) = Refusal SpellsNameOctets borrowed_name.fault s r e
