-- Octets of which a part may be shared.
use Rattle.std.specs.Prelude.{ℕ, List}
use Rattle.rpki_der.specs.declared.keep.Shared.{Shared}
use Rattle.rpki_der.specs.Standing.{StandsIn}

-- they are in the shared octets, and end where k looks for their end
abbrev pub CanShare : Shared → List ℕ → Type 0
CanShare k s = StandsIn k.bytes.now k.end s
