-- Members of objects of JSON.
use Rattle.std.proofs.Common.{◌≡◌, ℕ, List, [], ◌∷◌, length, map, ap, refl, subst, sym}
use Rattle.std.specs.Prelude.{Some, String, option_and_then, suc}
use Rattle.std.specs.declared.alloc.Global.{Global}
use Rattle.serde_json.specs.Data.{Data}
use Rattle.serde_json.specs.Find.{as_array, get}
use Rattle.serde_json.specs.View.{items_view, members_view, view}
use Rattle.serde_json.specs.declared.value.Value.{Value}
use Rattle.rpki_payloads.specs.Exceptions.{AreEach}
use Rattle.rpki_payloads.specs.ExceptionsText.{AreListed, size}

-- an object has as many members as its map has entries
pub size-view : (es : List (String Global × Value)) → size (members_view es) ≡ length es
size-view [] = refl
size-view (e ∷ es) = ap suc (size-view es)

-- R is true of what f makes of each
pub each-map : {A B C : Type 0} (f : A → B) (R : B → C → Type 0) (xs : List A) (ys : List C)
    → AreEach (λ x. R (f x)) xs ys → AreEach R (map f xs) ys
each-map f R [] [] h = tt
each-map f R [] (y ∷ ys) h = absurd h
each-map f R (x ∷ xs) [] h = absurd h
each-map f R (x ∷ xs) (y ∷ ys) h = (h.0, each-map f R xs ys h.1)

-- an array whose elements are R of these, one by one
pub listed : {X : Type 0} (name : List ℕ) (R : Data → X → Type 0) (d : Data) (values seen : List Value) (xs : List X)
    → seen ≡ values → Some (items_view values) ≡ option_and_then as_array (get name d)
    → AreEach (λ v. R (view v)) seen xs → AreListed name R d xs
listed {X} name R d values seen xs same there each = (
  map view values,
  sym there,
  each-map view R values xs (subst (λ (vs : List Value). AreEach (λ v. R (view v)) vs xs) same each),
)
