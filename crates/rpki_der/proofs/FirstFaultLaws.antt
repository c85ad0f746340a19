-- The error of the leftmost part that isn't there: how a composed reader shows it, and what follows from it.
use Rattle.std.proofs.Common.{◌≡◌, ◌≢◌, inl, inr, ℕ, Bool, List, [], Option, Some, None, Result, Ok, Err}
use Rattle.std.proofs.Common.{refl, sym, subst, ◌∙◌}
use Rattle.std.specs.Prelude.{IsErr, IsErrAnd}
use Rattle.rpki_der.specs.declared.error.DecodeError.{DecodeError}
use Rattle.rpki_der.specs.declared.error.DecodeError.TheVariants.{Truncated, BadTag, BadLength, Unexpected, Content}
use Rattle.rpki_der.specs.declared.error.DecodeError.TheVariants.{Trailing, OutOfMemory}
use Rattle.rpki_der.specs.declared.cursor.Constructed.{Constructed}
use Rattle.rpki_der.specs.Cursor.{left}
use Rattle.rpki_der.specs.Error.{error_number}
use Rattle.rpki_der.specs.TagName.{TagName}
use Rattle.rpki_der.specs.Reading.{Accepts, Refuses, Refusal, Reads, ReadsWhere, SpellsNothing, UnlessMemory}
use Rattle.rpki_der.specs.Reading.{OrMemoryWhere, IsWholeFault}
use Rattle.rpki_der.specs.Values.{SpellsContents, SpellsLeaf, IsContentsFault, GivesOuterFault, IsOuterFault}
use Rattle.rpki_der.specs.Composed.{NotInside, ReadsInside, ReadsAll}
use Rattle.rpki_der.specs.Composed.NotInside.{Outside, Refused, More}
use Rattle.rpki_der.specs.FirstFault.{FirstFault, OptionalFault, IsEndFault, RepeatedFault, IsInsideFault, ReadsParts}
use Rattle.rpki_der.specs.FirstFault.FirstFault.{AtPart, Later}
use Rattle.rpki_der.specs.FirstFault.RepeatedFault.{AtMember, AfterMember}
use Rattle.rpki_der.proofs.ReadingLaws.{UnlessMemory-weaker}
use Rattle.rpki_der.proofs.LeavesLaws.{contents-no-memory}
use Rattle.rpki_der.proofs.InsideLaws.{Same, unless-memory, read-inside}
use Rattle.rpki_der.proofs.ComposedLaws.{all-read, nothing-after, nothing-whole}

abbrev Kind : Type 1
Kind = List ℕ → DecodeError → Type 0

-- ---- parts in order

-- the first part isn't there
pub at-part : {V : Type 0} (G : V → List ℕ → Type 0) (K : Kind) (L : V → Kind) (s r : List ℕ) (e : DecodeError)
    → Refusal G K s r e → FirstFault G K L s e
at-part G K L s r e h = AtPart h.refuses h.kind

-- the second isn't
pub at-second : {V W : Type 0} (G : V → List ℕ → Type 0) (K : Kind) (H : W → List ℕ → Type 0) (M : Kind)
    (L : V → W → Kind) (s r q : List ℕ) (v : V) (e : DecodeError)
    → Accepts G s v r → Refusal H M r q e → FirstFault G K (λ v. FirstFault H M (L v)) s e
at-second G K H M L s r q v e a h = Later v r a (at-part H M (L v) r q e h)

-- something follows the second
pub after-second : {V W : Type 0} (G : V → List ℕ → Type 0) (K : Kind) (H : W → List ℕ → Type 0) (M : Kind)
    (s r q : List ℕ) (v : V) (w : W)
    → Accepts G s v r → Accepts H r w q → q ≢ [] → FirstFault G K (λ v. FirstFault H M (λ w. IsEndFault)) s Trailing
after-second G K H M s r q v w a b some = Later v r a (Later w q b (some, refl))

-- an optional part that is there in part alone
pub at-optional : {V : Type 0} (B : List ℕ → Type 0) (G : V → List ℕ → Type 0) (K L : Kind) (s r : List ℕ)
    (e : DecodeError) → B s × Refusal G K s r e → OptionalFault B G K L s e
at-optional B G K L s r e h = inr (h.0, AtPart h.1.refuses h.1.kind)

-- something follows an optional part that is all
pub after-optional : {X V : Type 0} (B : List ℕ → Type 0) (view : X → V) (G : V → List ℕ → Type 0) (K : Kind)
    (s r : List ℕ) (p : Option X)
    → ReadsWhere B view G K s r (Ok p) → r ≢ [] → OptionalFault B G K IsEndFault s Trailing
after-optional B view G K s r None h some = inl (h.0, (λ z. some (h.1 ∙ z), refl))
after-optional B view G K s r (Some x) h some = inr (h.0, Later (view x) r h.1 (some, refl))

-- what follows a part that is there, whatever it is; and where no part is there
module _ {V : Type 0} (G : V → List ℕ → Type 0) (K : Kind) (L : V → Kind) (s : List ℕ) (e : DecodeError) where
  pub where-missing : FirstFault G K L s e → Refuses G s → K s e
  where-missing (AtPart none k) h = k
  where-missing (Later v r a l) h = absurd (h v r a.spells)

-- ---- where allocation fails

-- a kind that holds anyway, but for allocation failure, which has a reason
pub memory-where : (P : List ℕ → Type 0) (K : Kind) (s : List ℕ) (e : DecodeError) → (e ≡ OutOfMemory → P s) → K s e
    → OrMemoryWhere P K s e
memory-where P K s Truncated f h = h
memory-where P K s BadTag f h = h
memory-where P K s BadLength f h = h
memory-where P K s Unexpected f h = h
memory-where P K s (Content x) f h = h
memory-where P K s Trailing f h = h
memory-where P K s OutOfMemory f h = f refl

pub first-no-memory : {V : Type 0} (G : V → List ℕ → Type 0) (K : Kind) (L : V → Kind) (s : List ℕ)
    → (K s OutOfMemory → ⊥) → ((v : V) (r : List ℕ) → L v r OutOfMemory → ⊥)
    → FirstFault G K L s OutOfMemory → ⊥
first-no-memory G K L s f g (AtPart none k) = f k
first-no-memory G K L s f g (Later v r a l) = g v r l

pub end-no-memory : (s : List ℕ) → IsEndFault s OutOfMemory → ⊥
end-no-memory s h = let e = h.1 in cc

pub optional-no-memory : {V : Type 0} (B : List ℕ → Type 0) (G : V → List ℕ → Type 0) (K L : Kind) (s : List ℕ)
    → (K s OutOfMemory → ⊥) → ((r : List ℕ) → L r OutOfMemory → ⊥)
    → OptionalFault B G K L s OutOfMemory → ⊥
optional-no-memory B G K L s f g (inl h) = g s h.1
optional-no-memory B G K L s f g (inr h) = first-no-memory G K (λ v. L) s f (λ v r. g r) h.1

pub repeated-no-memory : {V : Type 0} (G : V → List ℕ → Type 0) (K : Kind) (s : List ℕ)
    → ((r : List ℕ) → K r OutOfMemory → ⊥) → RepeatedFault G K s OutOfMemory → ⊥
repeated-no-memory G K s f (AtMember some none k) = f s k
repeated-no-memory G K s f (AfterMember v r a h) = repeated-no-memory G K r f h

-- ---- that the error is one by its number, allocation failure aside

abbrev pub IsOne : Kind → List ℕ → Type 0
IsOne K s = (d e : DecodeError) → d ≢ OutOfMemory → e ≢ OutOfMemory → K s d → K s e → error_number d ≡ error_number e

pub repeated-one : {V : Type 0} (G : V → List ℕ → Type 0) (K : Kind) (s : List ℕ) → ((r : List ℕ) → IsOne K r)
    → IsOne (RepeatedFault G K) s
repeated-one G K s f d e m n (AtMember some none k) (AtMember some' not l) = f s d e m n k l
repeated-one G K s f d e m n (AtMember some none k) (AfterMember v r a l) = absurd (unless-memory d m none v r a.spells)
repeated-one G K s f d e m n (AfterMember v r a k) (AtMember some none l) = absurd (unless-memory e n none v r a.spells)
repeated-one G K s f d e m n (AfterMember v r a k) (AfterMember w q b l) =
    let is = a.only w q b.spells in
    repeated-one G K r f d e m n k (subst (λ (x : List ℕ). RepeatedFault G K x e) is.1 l)

-- ---- a value around parts

-- the error of the value, where that isn't there
pub inside-outer : (t : TagName) (f : Bool) (L : Kind) (s : List ℕ) (e : DecodeError) → IsInsideFault t f L s e
    → GivesOuterFault t f s e
inside-outer t f L s e h = where-missing (SpellsContents t f) (IsContentsFault t f) (λ c r. L c) s e h

pub inside-no-memory : (t : TagName) (f : Bool) (L : Kind) (s : List ℕ) → ((c : List ℕ) → L c OutOfMemory → ⊥)
    → IsInsideFault t f L s OutOfMemory → ⊥
inside-no-memory t f L s g = first-no-memory (SpellsContents t f) (IsContentsFault t f) (λ c r. L c) s
    (λ h. contents-no-memory t f s OutOfMemory h refl) (λ c r. g c)

-- the same, where nothing is allocated
pub inside-outer-exactly : (t : TagName) (f : Bool) (L : Kind) (s : List ℕ) (e : DecodeError)
    → ((c : List ℕ) → L c OutOfMemory → ⊥) → IsInsideFault t f L s e → IsOuterFault t f s e
inside-outer-exactly t f L s e g h = record {
  other = λ z. inside-no-memory t f L s g (subst (IsInsideFault t f L s) z h);
  kind = inside-outer t f L s e h;
}

-- ---- a reader of a value, over the reader of its contents

pub reads-parts-all : {X V : Type 0} (view : X → V) (G : V → List ℕ → Type 0) (K : Kind) (s r : List ℕ)
    (x : Result X DecodeError) → ReadsParts view G K s r x → ReadsAll view G K s r x
reads-parts-all view G K s r (Ok x) h = (h.0, λ some. (h.1 some).0)
reads-parts-all view G K s r (Err e) h = h

module _ {X V : Type 0} (view : X → V) (t : TagName) (f : Bool) (C : V → List ℕ → Type 0) (K : Kind)
    (reads : Constructed → Result X DecodeError → Constructed → Type 0)
    (law : (b a : Constructed) (x : Result X DecodeError) → reads b x a → ReadsParts view C K (left b) (left a) x) where
  kind-inside : (s : List ℕ) (e : DecodeError) → NotInside t f Same reads s e → IsInsideFault t f K s e
  kind-inside s e (Outside c q h same) = subst (IsInsideFault t f K s) (sym same) (AtPart h.refuses h.kind)
  kind-inside s e (Refused q d h) = Later (left h.before) q h.value (law h.before h.after (Err e) h.read).1
  kind-inside s e (More x q d h some same) =
      subst (IsInsideFault t f K s) (sym same)
      (Later (left h.before) q h.value ((law h.before h.after (Ok x) h.read).1 (λ z. some (sym h.rest ∙ z))).1)

  all : (b a : Constructed) (x : Result X DecodeError) → reads b x a → ReadsAll view C K (left b) (left a) x
  all b a x h = reads-parts-all view C K (left b) (left a) x (law b a x h)

  -- a SEQUENCE, or another value, whose contents a closure reads
  pub read-parts-inside : (s r : List ℕ) (x : Result X DecodeError) → ReadsInside t f Same reads s r x
      → Reads view (SpellsLeaf t f C) (IsInsideFault t f K) s r x
  read-parts-inside s r (Ok x) h = read-inside view t f C K reads all s r (Ok x) h
  read-parts-inside s r (Err e) h =
      let k = read-inside view t f C K reads all s r (Err e) h in
      record { unchanged = k.unchanged; refuses = k.refuses; kind = kind-inside s e h.1 }

-- a reader of one part, as a reader of parts: nothing may follow
pub reads-one-part : {X V : Type 0} (view : X → V) (G : V → List ℕ → Type 0) (K : Kind) (s r : List ℕ)
    (x : Result X DecodeError)
    → Reads view G K s r x → ReadsParts view G (FirstFault G K (λ v. IsEndFault)) s r x
reads-one-part view G K s r (Ok x) h =
    (all-read G s (view x) r h, λ some. (nothing-after G s r (view x) h some, Later (view x) r h (some, refl)))
reads-one-part view G K s r (Err e) h = (UnlessMemory-weaker e (nothing-whole G s) h.refuses, AtPart h.refuses h.kind)

-- what a reader of parts returns where a `?` ends it
pub tried-parts : {X V : Type 0} (view : X → V) (G : V → List ℕ → Type 0) (K : Kind) (s r : List ℕ) (d : DecodeError)
    (x : Result X DecodeError)
    → IsErr x × IsErrAnd x (λ e. e ≡ d) → UnlessMemory d (SpellsNothing G s) × K s d → ReadsParts view G K s r x
tried-parts view G K s r d (Ok x) h k = absurd h.1
tried-parts view G K s r d (Err e) h k = subst (λ q. UnlessMemory q (SpellsNothing G s) × K s q) (sym h.1) k

-- the same of an optional reader
pub tried-where : {X V : Type 0} (B : List ℕ → Type 0) (view : X → V) (G : V → List ℕ → Type 0) (K : Kind)
    (s r : List ℕ) (d : DecodeError) (x : Result (Option X) DecodeError)
    → IsErr x × IsErrAnd x (λ e. e ≡ d) → B s → Refusal G K s r d → ReadsWhere B view G K s r x
tried-where B view G K s r d (Ok x) h b k = absurd h.1
tried-where B view G K s r d (Err e) h b k = (b, subst (λ q. Refusal G K s r q) (sym h.1) k)

-- ---- a reader of another grammar or kind

pub reads-kind : {X V : Type 0} (view : X → V) (G : V → List ℕ → Type 0) (K L : Kind) (s r : List ℕ)
    (x : Result X DecodeError)
    → ((e : DecodeError) → K s e → L s e) → Reads view G K s r x → Reads view G L s r x
reads-kind view G K L s r (Ok x) f h = h
reads-kind view G K L s r (Err e) f h = record { unchanged = h.unchanged; refuses = h.refuses; kind = f e h.kind }

-- ---- a reader of whole octets

-- where nothing is allocated there is no allocation failure
pub whole-no-memory : {V : Type 0} (G : V → List ℕ → Type 0) (K : Kind) (s : List ℕ) (e : DecodeError)
    → (K s OutOfMemory → ⊥) → IsWholeFault G K s e → e ≢ OutOfMemory
whole-no-memory G K s e f h z = f (h.memory z)
