-- What is written of a list: its items, in sequence.
use Rattle.std.specs.Prelude.{ℕ, List, [], ◌∷◌, ◌++◌}
use Rattle.rpki_der.specs.Tree.{Tree}
use Rattle.rpki_der.specs.Tree.Tree.{Nothing, Both}

abbrev pub listed_octets : {T : Type 0} → (T → List ℕ) → List T → List ℕ
listed_octets octets [] = []
listed_octets octets (x ∷ xs) = octets x ++ listed_octets octets xs

-- each item has P
abbrev pub EachHas : {T : Type 0} → (T → Type 0) → List T → Type 0
EachHas P [] = Unit {0}
EachHas P (x ∷ xs) = P x × EachHas P xs

-- the same as a tree of values
abbrev pub listed_tree : {T : Type 0} → (T → Tree) → List T → Tree
listed_tree tree [] = Nothing
listed_tree tree (x ∷ xs) = Both (tree x) (listed_tree tree xs)
