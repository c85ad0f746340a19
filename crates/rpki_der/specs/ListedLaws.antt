-- Lemmas: lists that are written.
use Rattle.std.specs.Prelude.{◌≡◌, ◌↔◌, ℕ, List, [], ◌∷◌, refl}
use Rattle.rpki_der.specs.Members.{IsValueList}
use Rattle.rpki_der.specs.Tree.{Tree, tree_octets, IsShortTree}
use Rattle.rpki_der.specs.TreeLaws.{both_spelled, both_measured, as_it_is}
use Rattle.rpki_der.specs.ValueListLaws.{no_value_list, value_lists_append}
use Rattle.rpki_der.specs.Listed.{listed_octets, EachHas, listed_tree}

pub listed_spelled : {T : Type 0} (octets : T → List ℕ) (tree : T → Tree)
    → ((x : T) → octets x ≡ tree_octets (tree x))
    → (xs : List T) → listed_octets octets xs ≡ tree_octets (listed_tree tree xs)
listed_spelled octets tree p [] = refl
listed_spelled octets tree p (x ∷ xs) = both_spelled (octets x) (listed_octets octets xs) (tree x)
    (listed_tree tree xs) (p x) (listed_spelled octets tree p xs)

pub listed_measured : {T : Type 0} (P : T → Type 0) (tree : T → Tree) → ((x : T) → P x ↔ IsShortTree (tree x))
    → (xs : List T) → EachHas P xs ↔ IsShortTree (listed_tree tree xs)
listed_measured P tree p [] = as_it_is
listed_measured P tree p (x ∷ xs) = both_measured (p x) (listed_measured P tree p xs)

pub listed_values : {T : Type 0} (octets : T → List ℕ) (P : T → Type 0) → ((x : T) → P x → IsValueList (octets x))
    → (xs : List T) → EachHas P xs → IsValueList (listed_octets octets xs)
listed_values octets P p [] h = no_value_list
listed_values octets P p (x ∷ xs) h = value_lists_append (octets x) (listed_octets octets xs) (p x h.0)
    (listed_values octets P p xs h.1)
