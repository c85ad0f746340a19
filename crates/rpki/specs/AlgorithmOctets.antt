-- The one spelling of an algorithm identifier with its parameters, or without them.
use Rattle.std.specs.Prelude.{ℕ, Bool, true, false, List, [], ◌++◌}
use Rattle.rpki_der.specs.Prelude.{oid, null, sequence, tlv}

-- a NULL where there are parameters
abbrev pub parameters_octets : Bool → List ℕ
parameters_octets true = tlv null false []
parameters_octets false = []

abbrev pub identified_octets : List ℕ → Bool → List ℕ
identified_octets o present = tlv oid false o ++ parameters_octets present

abbrev pub algorithm_octets : List ℕ → Bool → List ℕ
algorithm_octets o present = tlv sequence true (identified_octets o present)
