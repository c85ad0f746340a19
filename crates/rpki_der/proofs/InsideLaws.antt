-- A reader of one value, over the reader of its contents that it calls.
use Rattle.std.proofs.Common.{◌≡◌, ◌≢◌, ℕ, Bool, true, List, [], Result, Ok, Err, refl, sym, subst, ◌∙◌}
use Rattle.rpki_der.specs.declared.error.DecodeError.{DecodeError}
use Rattle.rpki_der.specs.declared.error.DecodeError.TheVariants.{Truncated, BadTag, BadLength, Unexpected, Content}
use Rattle.rpki_der.specs.declared.error.DecodeError.TheVariants.{Trailing, OutOfMemory}
use Rattle.rpki_der.specs.declared.cursor.Constructed.{Constructed}
use Rattle.rpki_der.specs.Cursor.{left}
use Rattle.rpki_der.specs.TagName.{TagName}
use Rattle.rpki_der.specs.Reading.{Spells, Refusal, Reads, UnlessMemory, OrMemoryWhere}
use Rattle.rpki_der.specs.Values.{SpellsContents, SpellsLeaf, IsContentsFault, GivesOuterFault}
use Rattle.rpki_der.specs.Inside.{HasInside}
use Rattle.rpki_der.specs.Composed.{Inside, NotInside, ReadsInside, ReadsAll, NotWhole, ReadsWhole}
use Rattle.rpki_der.specs.Composed.NotWhole.{RefusedAll, Left}
use Rattle.rpki_der.specs.Reading.{SpellsNothing, Decodes, IsWholeFault, NeverMemory}
use Rattle.rpki_der.specs.Composed.NotInside.{Outside, Refused, More}
use Rattle.rpki_der.proofs.ReadingLaws.{UnlessMemory-from}
pub use Rattle.rpki_der.proofs.ReadingLaws.{unless-memory}
use Rattle.rpki_der.proofs.LeavesLaws.{contents-no-memory}
use Rattle.rpki_der.proofs.ComposedLaws.{outer-refused, inner-refused, inner-accepted}
use Rattle.rpki_der.proofs.ComposedLaws.{all-read, more-left, not-read}

-- ---- where allocation fails

-- another error
pub no-memory : (P : List ℕ → Type 0) (K : List ℕ → DecodeError → Type 0) (s : List ℕ) (e : DecodeError)
    → e ≢ OutOfMemory → K s e → OrMemoryWhere P K s e
no-memory P K s Truncated n h = h
no-memory P K s BadTag n h = h
no-memory P K s BadLength n h = h
no-memory P K s Unexpected n h = h
no-memory P K s (Content x) n h = h
no-memory P K s Trailing n h = h
no-memory P K s OutOfMemory n h = absurd (n refl)

-- the error of a part, which allocates where P says so of the octets that it reads
pub part-memory : (P Q : List ℕ → Type 0) (L K : List ℕ → DecodeError → Type 0) (c s : List ℕ) (e : DecodeError)
    → (P c → Q s) → OrMemoryWhere P L c e → K s e → OrMemoryWhere Q K s e
part-memory P Q L K c s Truncated f m h = h
part-memory P Q L K c s BadTag f m h = h
part-memory P Q L K c s BadLength f m h = h
part-memory P Q L K c s Unexpected f m h = h
part-memory P Q L K c s (Content x) f m h = h
part-memory P Q L K c s Trailing f m h = h
part-memory P Q L K c s OutOfMemory f m h = f m

-- ---- one value, over the reader of its contents

-- the error of a call that `?` hands on as it is
abbrev pub Same : DecodeError → DecodeError → Type 0
Same c e = e ≡ c

trailing-other : (e : DecodeError) → Same Trailing e → e ≢ OutOfMemory
trailing-other e same z = let k : Trailing ≡ OutOfMemory = sym same ∙ z in cc

outside-other : (t : TagName) (f : Bool) (s q : List ℕ) (c e : DecodeError)
    → Refusal (SpellsContents t f) (IsContentsFault t f) s q c → Same c e → e ≢ OutOfMemory
outside-other t f s q c e h same z = contents-no-memory t f s c h.kind (sym same ∙ z)

module _ {X V : Type 0} (view : X → V) (t : TagName) (f : Bool) (C : V → List ℕ → Type 0)
    (K : List ℕ → DecodeError → Type 0)
    (reads : Constructed → Result X DecodeError → Constructed → Type 0)
    (law : (b a : Constructed) (x : Result X DecodeError) → reads b x a → ReadsAll view C K (left b) (left a) x) where
  refused : (s : List ℕ) (e : DecodeError) → NotInside t f Same reads s e
      → Refusal (SpellsLeaf t f C) (GivesOuterFault t f) s s e
  refused s e (Outside c q h same) =
      outer-refused t f C s q s e refl (subst (Refusal (SpellsContents t f) (IsContentsFault t f) s q) (sym same) h)
  refused s e (Refused q d h) =
      inner-refused t f C s (left h.before) q s e refl h.value (law h.before h.after (Err e) h.read).0
  refused s e (More x q d h some same) = inner-refused t f C s (left h.before) q s e refl h.value
      (UnlessMemory-from e ((law h.before h.after (Ok x) h.read).1 (λ z. some (sym h.rest ∙ z))))

  -- a SEQUENCE, or another value, whose contents a closure reads
  pub read-inside : (s r : List ℕ) (x : Result X DecodeError) → ReadsInside t f Same reads s r x
      → Reads view (SpellsLeaf t f C) (GivesOuterFault t f) s r x
  read-inside s r (Ok x) h =
      inner-accepted t f C s (left h.before) r (view x) h.value ((law h.before h.after (Ok x) h.read).0 h.rest)
  read-inside s r (Err e) h =
      subst (λ q. Refusal (SpellsLeaf t f C) (GivesOuterFault t f) s q e) (sym h.0) (refused s e h.1)

  -- the same where the closure allocates nothing
  module _ (never : (c : List ℕ) → K c OutOfMemory → ⊥) where
    other : (s : List ℕ) (e : DecodeError) → NotInside t f Same reads s e → e ≢ OutOfMemory
    other s e (Outside c q h same) = outside-other t f s q c e h same
    other s e (Refused q d h) =
        λ z. never (left h.before) (subst (K (left h.before)) z (law h.before h.after (Err e) h.read).1)
    other s e (More x q d h some same) = trailing-other e same

-- the same, where it allocates only for contents that have P
module _ {X V : Type 0} (view : X → V) (t : TagName) (C : V → List ℕ → Type 0) (P : List ℕ → Type 0)
    (L : List ℕ → DecodeError → Type 0)
    (reads : Constructed → Result X DecodeError → Constructed → Type 0)
    (law : (b a : Constructed) (x : Result X DecodeError) → reads b x a → ReadsAll view C (OrMemoryWhere P L) (left b)
    (left a) x) where
  memory : (s : List ℕ) (e : DecodeError) → NotInside t true Same reads s e → GivesOuterFault t true s e
      → OrMemoryWhere (HasInside t P) (GivesOuterFault t true) s e
  memory s e (Outside c q h same) k =
      no-memory (HasInside t P) (GivesOuterFault t true) s e (outside-other t true s q c e h same) k
  memory s e (Refused q d h) k =
      part-memory P (HasInside t P) L (GivesOuterFault t true) (left h.before) s e
      (λ p. (left h.before, q, h.value.spells, p)) (law h.before h.after (Err e) h.read).1 k
  memory s e (More x q d h some same) k =
      no-memory (HasInside t P) (GivesOuterFault t true) s e (trailing-other e same) k

-- ---- the reader of the contents

-- What the reader of the contents says of errors alone, where the contents have B, is said of the value.
module _ {X : Type 0} (t : TagName) (f : Bool) (B : List ℕ → Type 0) (R : Result X DecodeError → Type 0)
    (refusal : (x : X) → R (Ok x) → ⊥)
    (reads : Constructed → Result X DecodeError → Constructed → Type 0)
    (law : (b a : Constructed) (x : Result X DecodeError) → reads b x a → B (left b) → R x) where
  within : (s q c r d : List ℕ) (x : Result X DecodeError) → Inside t f reads s q x d
      → Spells (SpellsContents t f) s c r → B c → R x
  within s q c r d x h l b = law h.before h.after x h.read (subst B (h.value.only c r l).0 b)

  pub refused-inside : (s q c r : List ℕ) (x : Result X DecodeError) → ReadsInside t f Same reads s q x
      → Spells (SpellsContents t f) s c r → B c → R x
  refused-inside s q c r (Ok x) h l b = within s q c r [] (Ok x) h l b
  refused-inside s q c r (Err e) (same, Outside a p h k) l b =
      absurd (unless-memory a (contents-no-memory t f s a h.kind) h.refuses c r l)
  refused-inside s q c r (Err e) (same, Refused p d h) l b = within s p c r d (Err e) h l b
  refused-inside s q c r (Err e) (same, More x p d h some k) l b = absurd (refusal x (within s p c r d (Ok x) h l b))

-- ---- all of the octets, over the reader of a beginning

module _ {X V : Type 0} (view : X → V) (G : V → List ℕ → Type 0) (K : List ℕ → DecodeError → Type 0)
    (reads : Constructed → Result X DecodeError → Constructed → Type 0)
    (law : (b a : Constructed) (x : Result X DecodeError) → reads b x a → Reads view G K (left b) (left a) x) where
  not-whole : (s : List ℕ) (e : DecodeError) → NotWhole Same reads s e
      → UnlessMemory e (SpellsNothing G s) × IsWholeFault G K s e
  not-whole s e (RefusedAll d h) =
      subst (λ q. UnlessMemory e (SpellsNothing G q) × IsWholeFault G K q e) h.all
      (not-read G K (left h.before) (left h.after) e (law h.before h.after (Err e) h.read))
  not-whole s e (Left x d h some same) =
      let m = more-left G K (left h.before) (view x) (left h.after) (law h.before h.after (Ok x) h.read)
      (λ z. some (sym h.rest ∙ z)) in
      subst (λ q. UnlessMemory e (SpellsNothing G q) × IsWholeFault G K q e) h.all
      (subst (λ z. UnlessMemory z (SpellsNothing G (left h.before)) × IsWholeFault G K (left h.before) z) (sym same) m)

  pub read-whole : (s : List ℕ) (x : Result X DecodeError) → ReadsWhole Same reads s x
      → Decodes view G (IsWholeFault G K) s x
  read-whole s (Ok x) h =
      subst (λ q. G (view x) q × ((w : V) → G w q → w ≡ view x)) h.all
      (all-read G (left h.before) (view x) (left h.after) (law h.before h.after (Ok x) h.read) h.rest)
  read-whole s (Err e) h = not-whole s e h

-- an error that is no allocation failure
pub exactly : {V : Type 0} (G : V → List ℕ → Type 0) (K : List ℕ → DecodeError → Type 0) (s : List ℕ) (e : DecodeError)
    → e ≢ OutOfMemory
    → UnlessMemory e (SpellsNothing G s) × IsWholeFault G K s e
    → UnlessMemory e (SpellsNothing G s) × NeverMemory G K s e
exactly G K s e ne h = (h.0, record { other = ne; kind = h.1 })

-- nor is Trailing
pub trailing-exactly : {V : Type 0} (G : V → List ℕ → Type 0) (K : List ℕ → DecodeError → Type 0) (s : List ℕ)
    → SpellsNothing G s × IsWholeFault G K s Trailing → SpellsNothing G s × NeverMemory G K s Trailing
trailing-exactly G K s h = (h.0, record { other = λ z. cc; kind = h.1 })

-- all of the octets, over a reader of a beginning that allocates nothing
module _ {X V : Type 0} (view : X → V) (G : V → List ℕ → Type 0) (K : List ℕ → DecodeError → Type 0)
    (never : (s : List ℕ) (e : DecodeError) → K s e → e ≢ OutOfMemory)
    (reads : Constructed → Result X DecodeError → Constructed → Type 0)
    (law : (b a : Constructed) (x : Result X DecodeError) → reads b x a → Reads view G K (left b) (left a) x) where
  whole-never : (s : List ℕ) (e : DecodeError) → NotWhole Same reads s e → e ≢ OutOfMemory
  whole-never s e (RefusedAll d h) = never (left h.before) e (law h.before h.after (Err e) h.read).kind
  whole-never s e (Left x d h some same) = λ z. let k : Trailing ≡ OutOfMemory = sym same ∙ z in cc

  pub read-whole-exactly : (s : List ℕ) (x : Result X DecodeError) → ReadsWhole Same reads s x
      → Decodes view G (NeverMemory G K) s x
  read-whole-exactly s (Ok x) h = read-whole view G K reads law s (Ok x) h
  read-whole-exactly s (Err e) h = exactly G K s e (whole-never s e h) (read-whole view G K reads law s (Err e) h)
