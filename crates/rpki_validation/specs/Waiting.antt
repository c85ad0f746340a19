-- Authorities that are still to be looked at, in their order.
use Rattle.std.specs.Prelude.{◌≡◌, ◌⊎◌, ◌↔◌, not, ℕ, Bool, List, ◌∷◌, map, Option}
use Rattle.std.specs.Prelude.{IsTrue}
use Rattle.std.specs.BTreeMap.{BTreeMap}
use Rattle.std.specs.List.{Contains}
use Rattle.std.specs.Ordering.{bool_cmp, ordering_then}
use Rattle.std.specs.declared.cmp.Ordering.TheVariants.{Less}
use Rattle.std.specs.declared.cmp.Ordering.{Ordering}
use Rattle.rpki_valid.specs.Verified.{Authority}
use Rattle.rpki_validation.specs.Basis.{holder_of}
use Rattle.rpki_validation.specs.Counts.{turn_cmp}
use Rattle.rpki_validation.specs.Met.{HasMark, Kinds, Mark, mark_in}
use Rattle.rpki_validation.specs.Named.{IsNamedFrom}
use Rattle.rpki_validation.specs.Snapshot.{Published, Where}

-- whether it isn't named; steps; and a mark
abbrev pub Key : Type 0
Key = Bool × (ℕ × Mark)

-- those that are named first, and then by turns
abbrev pub key_cmp : Key → Key → Ordering
key_cmp x y = ordering_then (bool_cmp x.0 y.0) (turn_cmp x.1 y.1)

-- an authority under its key
abbrev pub Entry : Type 0 → Type 0
Entry X = Key × Authority X

-- a key of the map: the mark, its numbers as they are kept
abbrev pub Kept : Type 0 → Type 0
Kept V = Bool × ℕ × (List ℕ × List ℕ × Option (List ℕ) × Option (List ℕ) × V × Kinds)

module _ {V : Type 0} (numbers : V → List ℕ) where
  abbrev pub key_of : Kept V → Key
  key_of k = (k.0, (k.1, mark_in numbers k.2))

  abbrev pub entries_of : {X : Type 0} → BTreeMap (Kept V) (Authority X) → List (Entry X)
  entries_of m = map (λ e. (key_of e.0, e.1)) m.entries

-- the authority is there under its key, and each other that was is, but for one under the same
pub record AddsWaiting {X : Type 0} (is_named : Bool) (a : Authority X) (old new : List (Entry X)) : Type 0 where
  pub mark : Mark
  pub marked : HasMark (holder_of a) mark
  pub added : Contains new ((not is_named, (a.depth, mark)), a)
  pub only : (e : Entry X) → Contains new e → Contains old e ⊎ (e ≡ ((not is_named, (a.depth, mark)), a))
  pub kept : (e : Entry X) → Contains old e → Contains new e ⊎ (e.0 ≡ (not is_named, (a.depth, mark)))

-- the authority is the first of those that were, and the others remain
pub record IsFirstWaiting {X : Type 0} (is_named : Bool) (a : Authority X) (old new : List (Entry X)) : Type 0 where
  pub key : ℕ × Mark
  pub removed : old ≡ ((not is_named, key), a) ∷ new
  pub above : (e : Entry X) → Contains new e → key_cmp (not is_named, key) e.0 ≡ Less

-- ---- those below one authority

-- it waits under its key: by name, where it is named from the place
pub record IsAddedUnder {X : Type 0} (published : Published) (place : Option (List ℕ)) (below : List (Authority X))
    (e : Entry X) : Type 0 where
  pub one : Contains below e.1
  pub marked : HasMark (holder_of e.1) e.0.1.1
  pub depth : e.0.1.0 ≡ e.1.depth
  pub named : IsTrue (not e.0.0) ↔ IsNamedFrom published e.1.terms.strictness.attributes place e.1.cert

-- there is an authority under the key
abbrev pub HasKey : {X : Type 0} → List (Entry X) → Key → Type 0
HasKey {X} w key = (a : Authority X) × Contains w (key, a)

-- each of these is added under its key, and nothing else; and no key is lost
pub record AddsBelowAll {X : Type 0} (published : Published) (place : Option (List ℕ)) (below : List (Authority X))
    (old new : List (Entry X)) : Type 0 where
  pub only : (e : Entry X) → Contains new e → Contains old e ⊎ IsAddedUnder published place below e
  pub all : (a : Authority X) → Contains below a → (is_other : Bool) × (mark : Mark) × HasMark (holder_of a) mark
      × HasKey new (is_other, (a.depth, mark))
      × (IsTrue (not is_other) ↔ IsNamedFrom published a.terms.strictness.attributes place a.cert)
  pub kept : (key : Key) → HasKey old key → HasKey new key

abbrev pub AddsAll : {X : Type 0} → Option Published → Option (List ℕ) → List (Authority X) → List (Entry X)
    → List (Entry X) → Type 0
AddsAll known place below old new = Where known (λ published. AddsBelowAll published place below old new)
