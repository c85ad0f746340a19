-- The order of an index: which entries follow an entry inside its value, and which after it.
use Rattle.std.specs.Prelude.{◌≡◌, ◌≢◌, ℕ, ◌<◌, ◌≤◌, List, Option, Some, slice_get}
use Rattle.rpki_der.specs.Index.{Entry}

-- The entry f follows the entry e of this number: it begins after where e begins. Where it begins in the value of e,
-- it is no member of what e is a member of; and the members of e begin in the value of e.
abbrev pub Follows : ℕ → Entry → Entry → Type 0
Follows number e f = (e.place < f.place) × (f.place < e.past → f.parent ≢ e.parent)
    × (f.parent ≡ Some number → f.place < e.past)

-- entries are in order: each is followed by those that come after it, and each parent comes before its members
abbrev pub AreInOrder : List Entry → Type 0
AreInOrder es =
    ((i k : ℕ) (e f : Entry) → i < k → slice_get es i ≡ Some e → slice_get es k ≡ Some f → Follows i e f)
    × ((i m : ℕ) (e : Entry) → slice_get es i ≡ Some e → e.parent ≡ Some m → m < i)

-- no entry that begins at this place or after it has the parent
abbrev pub HasEnd : Option ℕ → List Entry → ℕ → Type 0
HasEnd parent es past = (k : ℕ) (e : Entry) → slice_get es k ≡ Some e → past ≤ e.place → e.parent ≢ parent
