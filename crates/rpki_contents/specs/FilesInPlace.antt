-- The files of a manifest, read in place: octets that are files.
use Rattle.std.specs.Prelude.{◌≡◌, ℕ, List, length, Result, Ok, Err}
use Rattle.rpki_der.specs.declared.error.DecodeError.{DecodeError}
use Rattle.rpki_der.specs.Prelude.{Refuses, RepeatedFault, SpellsEach, SpellsNothing}
use Rattle.rpki_contents.specs.ListedFile.{ListedFile, file}

-- these octets are these files, in sequence
abbrev pub AreFiles : List ListedFile → List ℕ → Type 0
AreFiles xs s = SpellsEach file.spells xs s

-- octets, and how many files they are
pub record FileOctets : Type 0 where
  pub octets : List ℕ
  pub count : ℕ

abbrev pub octets_of : List ℕ → ℕ → FileOctets
octets_of octets count = record { octets = octets; count = count }

-- they are these files
pub record HoldFiles (v : FileOctets) (xs : List ListedFile) : Type 0 where
  pub files : AreFiles xs v.octets
  pub count : length xs ≡ v.count

-- no file begins s, and this is its error
abbrev pub IsNoFile : List ℕ → DecodeError → Type 0
IsNoFile s e = Refuses file.spells s × file.fault s e

-- s is no files, and this is its error: that of the first that isn't there
abbrev pub AreNoFiles : List ℕ → DecodeError → Type 0
AreNoFiles s e = SpellsNothing AreFiles s × RepeatedFault file.spells file.fault s e

-- how many files all of s is; or it is none
abbrev pub CountsFiles : List ℕ → Result ℕ DecodeError → Type 0
CountsFiles s (Ok n) = (xs : List ListedFile) × AreFiles xs s × (length xs ≡ n)
CountsFiles s (Err e) = AreNoFiles s e
