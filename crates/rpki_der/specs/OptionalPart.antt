-- What an optional part stands for.
use Rattle.std.specs.Prelude.{ℕ, List, [], Option, Some, None}
use Rattle.rpki_der.specs.Tree.{Tree}
use Rattle.rpki_der.specs.Tree.Tree.{Nothing}

-- no octets, or the octets of the part
abbrev pub optional_octets : {V : Type 0} → (V → List ℕ) → Option V → List ℕ
optional_octets octets None = []
optional_octets octets (Some v) = octets v

-- nothing, or the fact of the part
abbrev pub OfPart : {V : Type 0} → (V → Type 0) → Option V → Type 0
OfPart P None = Unit {0}
OfPart P (Some v) = P v

-- no value, or the tree of the part
abbrev pub optional_tree : {V : Type 0} → (V → Tree) → Option V → Tree
optional_tree tree None = Nothing
optional_tree tree (Some v) = tree v
