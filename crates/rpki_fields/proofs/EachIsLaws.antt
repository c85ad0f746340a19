-- Lists whose items are in a relation, in order.
use Rattle.std.proofs.Common.{◌≡◌, ◌<◌, ℕ, ◌+◌, List, [], ◌∷◌, ◌++◌, length, get_or, take, map, refl, sym, ap}
use Rattle.std.proofs.Common.{subst, ◌∙◌}
use Rattle.std.proofs.lemmas.List.{take_more, map-append}
use Rattle.rpki_fields.specs.EachIs.{EachIs}

-- an item more
pub each-more : {A B : Type 0} (R : A → B → Type 0) (xs : List A) (ys : List B) (x : A) (y : B) → EachIs R xs ys → R x y
    → EachIs R (xs ++ (x ∷ [])) (ys ++ (y ∷ []))
each-more R [] [] x y h k = (k, tt)
each-more R [] (z ∷ zs) x y h k = absurd h
each-more R (w ∷ ws) [] x y h k = absurd h
each-more R (w ∷ ws) (z ∷ zs) x y h k = (h.0, each-more R ws zs x y h.1 k)

-- the same of the items that a function makes of those that a loop has come to
pub each-taken : {A B C : Type 0} (R : B → C → Type 0) (view : A → B) (xs : List A) (i : ℕ) (x : A) (ys : List C)
    (y : C) → i < length xs → x ≡ get_or xs i x
    → EachIs R (map view (take i xs)) ys → R (view x) y → EachIs R (map view (take (i + 1) xs)) (ys ++ (y ∷ []))
each-taken R view xs i x ys y lt e h k =
    let same = ap (map view) (take_more xs i x lt) ∙ map-append view (take i xs) (get_or xs i x ∷ [])
    ∙ ap (λ w. map view (take i xs) ++ (view w ∷ [])) (sym e) in
    subst (λ w. EachIs R w (ys ++ (y ∷ []))) (sym same) (each-more R (map view (take i xs)) ys (view x) y h k)

-- the same of those items themselves
pub each-next : {A C : Type 0} (R : A → C → Type 0) (xs : List A) (i : ℕ) (d : A) (ys : List C) (y : C)
    → i < length xs → EachIs R (take i xs) ys → R (get_or xs i d) y → EachIs R (take (i + 1) xs) (ys ++ (y ∷ []))
each-next R xs i d ys y lt h k =
    subst (λ w. EachIs R w (ys ++ (y ∷ []))) (sym (take_more xs i d lt))
    (each-more R (take i xs) ys (get_or xs i d) y h k)

-- where each item is related to one at most, so is the list
pub one-each : {A B : Type 0} (R : A → B → Type 0) → ((x : A) (y z : B) → R x y → R x z → y ≡ z)
    → (xs : List A) (ys zs : List B) → EachIs R xs ys → EachIs R xs zs → ys ≡ zs
one-each R one [] [] [] g h = refl
one-each R one [] [] (z ∷ zs) g h = absurd h
one-each R one [] (y ∷ ys) zs g h = absurd g
one-each R one (x ∷ xs) [] zs g h = absurd g
one-each R one (x ∷ xs) (y ∷ ys) [] g h = absurd h
one-each R one (x ∷ xs) (y ∷ ys) (z ∷ zs) g h =
    let first = one x y z g.0 h.0 in
    let rest = one-each R one xs ys zs g.1 h.1 in
    rw (first, rest) refl
