-- Two lists of one length, whose items are in a relation, in order.
use Rattle.std.specs.Prelude.{List, [], ◌∷◌}

abbrev pub EachIs : {A B : Type 0} → (A → B → Type 0) → List A → List B → Type 0
EachIs R [] [] = Unit {0}
EachIs R [] (y ∷ ys) = ⊥
EachIs R (x ∷ xs) [] = ⊥
EachIs R (x ∷ xs) (y ∷ ys) = R x y × EachIs R xs ys
