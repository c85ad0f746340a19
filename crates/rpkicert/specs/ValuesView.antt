-- What clauses see of the texts of two values that disagree.
use Rattle.std.specs.Prelude.{Option, option_map}
use Rattle.rpkicert.specs.declared.told.Told.{Told}
use Rattle.rpkicert.specs.Values.{ToldParts}

abbrev pub told_in : Told → ToldParts
told_in t = record { found = t.found.items; expected = t.expected.items }

abbrev pub told_of : Option Told → Option ToldParts
told_of t = option_map told_in t
