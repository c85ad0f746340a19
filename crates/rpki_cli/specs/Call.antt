-- Calls of a machine that have failed: what was asked, as a number, and of which name or text.
use Rattle.std.specs.Prelude.{ℕ, List, [], ◌∷◌}

abbrev pub Call : Type 0
Call = List ℕ × List ℕ

abbrev pub call_of : List ℕ → List ℕ → Call
call_of numbers octets = (numbers, octets)

-- a file can't be made beside that of this name
abbrev pub staging : List ℕ → Call
staging name = call_of (0 ∷ []) name

-- a file can't take the place of that of this name
abbrev pub placing : List ℕ → Call
placing name = call_of (1 ∷ []) name

-- a file can't be taken away
abbrev pub taking : List ℕ → Call
taking name = call_of (8 ∷ []) name

-- the text can't be written to standard output, or to standard error
abbrev pub printing : List ℕ → Call
printing text = call_of (2 ∷ []) text

abbrev pub telling : List ℕ → Call
telling text = call_of (3 ∷ []) text

-- it can't be seen that the file of this name can be written
abbrev pub looking : List ℕ → Call
looking name = call_of (4 ∷ []) name

-- the file of this name can't be opened, or not be added to
abbrev pub opening : List ℕ → Call
opening name = call_of (5 ∷ []) name

abbrev pub adding : List ℕ → Call
adding name = call_of (6 ∷ []) name

-- it can't be told what is wrong with this name
abbrev pub complaining : List ℕ → Call
complaining name = call_of (7 ∷ []) name
