-- Readers by formats: what each combinator asks of the readers of its parts. The parts are read from the left, and an
-- end of a reader of parts is answered from the right: the part at which it ends, and then each part in front of it.
use Rattle.std.proofs.Common.{◌≡◌, ◌≢◌, ℕ, true, false, List, [], Option, Result, Ok, Err, sym, subst, append-nil}
use Rattle.std.specs.Prelude.{map, IsErr, IsErrAnd}
use Rattle.rpki_der.specs.declared.error.DecodeError.{DecodeError}
use Rattle.rpki_der.specs.declared.error.DecodeError.TheVariants.{Trailing}
use Rattle.rpki_der.specs.declared.cursor.Constructed.{Constructed}
use Rattle.rpki_der.specs.Cursor.{left}
use Rattle.rpki_der.specs.TagName.{TagName}
use Rattle.rpki_der.specs.Reading.{Spells, Accepts, Refusal, SpellsNothing, UnlessMemory}
use Rattle.rpki_der.specs.Values.{HasTag}
use Rattle.rpki_der.specs.Parts.{Then, optional_of}
use Rattle.rpki_der.specs.FirstFault.{FirstFault, IsEndFault}
use Rattle.rpki_der.specs.Composed.{ReadsInside}
use Rattle.rpki_der.specs.Format.{Format, leaf, around, optional_then, only, each, said_by, Takes, TakesAll, TakesWhere}
use Rattle.rpki_der.specs.Each.{ReadsEach}
use Rattle.rpki_der.proofs.ReadingLaws.{UnlessMemory-weaker}
use Rattle.rpki_der.proofs.InsideLaws.{Same}
use Rattle.rpki_der.proofs.EachLaws.{read-each, read-each-itself, leaf-some}
use Rattle.rpki_der.proofs.FirstFaultLaws.{read-parts-inside, reads-one-part, tried-parts, tried-where as where-tried}
use Rattle.rpki_der.proofs.LeavesLaws.{leaf-tag}
use Rattle.rpki_der.proofs.PartsLaws.{Kind, IsOnly, Failed, Returned, first-refused, then-refused, then-read}
use Rattle.rpki_der.proofs.PartsLaws.{last-refused, last-read, optional-refused, optional-then-refused}
use Rattle.rpki_der.proofs.PartsLaws.{optional-then-read, tags-apart}

-- a value around contents that a closure reads
pub takes-around : {X V : Type 0} (view : X → V) (t : TagName) (P : Format V)
    (reads : Constructed → Result X DecodeError → Constructed → Type 0)
    → ((b a : Constructed) (x : Result X DecodeError) → reads b x a → TakesAll view P (left b) (left a) x)
    → (s r : List ℕ) (x : Result X DecodeError) → ReadsInside t true Same reads s r x → Takes view (around t P) s r x
takes-around view t P reads all s r x h = read-parts-inside view t true P.spells P.fault reads all s r x h

-- one part alone
pub takes-only : {X V : Type 0} (view : X → V) (F : Format V) (s r : List ℕ) (x : Result X DecodeError)
    → Takes view F s r x → TakesAll view (only F) s r x
takes-only view F s r x h = reads-one-part view F.spells F.fault s r x h

-- a value around one other
pub takes-around-one : {X V : Type 0} (view : X → V) (t : TagName) (F : Format V)
    (reads : Constructed → Result X DecodeError → Constructed → Type 0)
    → ((b a : Constructed) (x : Result X DecodeError) → reads b x a → Takes view F (left b) (left a) x)
    → (s r : List ℕ) (x : Result X DecodeError) → ReadsInside t true Same reads s r x
    → Takes view (around t (only F)) s r x
takes-around-one view t F reads all =
    takes-around view t (only F) reads (λ b a x h. takes-only view F _ _ x (all b a x h))

-- values in words of their own: f v are the parts of v
module _ {X V W : Type 0} (view : X → V) (G : V → List ℕ → Type 0) (P : Format W) (f : V → W)
    (there : (v : V) (s : List ℕ) → P.spells (f v) s → G v s) (back : (v : V) (s : List ℕ) → G v s → P.spells (f v) s)
    (one : (v w : V) → f v ≡ f w → v ≡ w) where
  takes-nothing : (s : List ℕ) → SpellsNothing P.spells s → SpellsNothing G s
  takes-nothing s none v h = none (f v) (back v s h)

  pub takes-said : (s r : List ℕ) (x : Result X DecodeError) → TakesAll (λ x. f (view x)) P s r x
      → TakesAll view (said_by G P) s r x
  takes-said s r (Ok x) h = (
    λ end. let k = h.0 end in (there (view x) s k.0, λ w g. one w (view x) (k.1 (f w) (back w s g))),
    λ some. let k = h.1 some in (takes-nothing s k.0, k.1),
  )
  takes-said s r (Err e) h = (UnlessMemory-weaker e (takes-nothing s) h.0, h.1)

-- ---- how a reader of parts ends

-- it returned the error e: s spells nothing
pub record Fails {V : Type 0} (G : V → List ℕ → Type 0) (K : Kind) (s : List ℕ) (e : DecodeError) : Type 0 where
  pub nothing : UnlessMemory e (SpellsNothing G s)
  pub kind : K s e

-- it returned the value v, and left r
pub record Gives {V : Type 0} (G : V → List ℕ → Type 0) (K : Kind) (s r : List ℕ) (v : V) : Type 0 where
  pub all : r ≡ [] → IsOnly G v s
  pub more : r ≢ [] → SpellsNothing G s × K s Trailing

-- the clause of the reader: at a `?`, at an `Err` that is written out, and at an `Ok`
pub tried : {X V : Type 0} (view : X → V) (P : Format V) {s : List ℕ} {d : DecodeError} (r : List ℕ)
    (x : Result X DecodeError) → IsErr x × IsErrAnd x (λ e. e ≡ d) → Fails P.spells P.fault s d → TakesAll view P s r x
tried view P {s} {d} r x h k = tried-parts view P.spells P.fault s r d x h (k.nothing, k.kind)

pub failed : {V : Type 0} {G : V → List ℕ → Type 0} {K : Kind} {s : List ℕ} {e : DecodeError} → Fails G K s e
    → Failed G K s e
failed h = (h.nothing, h.kind)

pub given : {V : Type 0} {G : V → List ℕ → Type 0} {K : Kind} {s r : List ℕ} {v : V} → Gives G K s r v
    → Returned G K s r v
given h = (h.all, h.more)

-- the same of a value that is v
pub given-as : {V : Type 0} {G : V → List ℕ → Type 0} {K : Kind} {s r : List ℕ} {v w : V} → w ≡ v → Gives G K s r v
    → Returned G K s r w
given-as {V} {G} {K} {s} {r} e h = subst (λ (x : V). Returned G K s r x) (sym e) (given h)

-- the last part: it isn't there; it is
module _ {V : Type 0} {G : V → List ℕ → Type 0} {K : Kind} {s r : List ℕ} where
  pub last : {e : DecodeError} → Refusal G K s r e → Fails G (FirstFault G K (λ v. IsEndFault)) s e
  last h = let k = last-refused h in record { nothing = k.0; kind = k.1 }

  pub all : {v : V} → Accepts G s v r → Gives G (FirstFault G K (λ v. IsEndFault)) s r v
  all a = let k = last-read {K = K} a in record { all = k.0; more = k.1 }

-- a part in front of others: it isn't there; it is, and one of the others isn't; it is, and so are the others
module _ {A B : Type 0} {G : A → List ℕ → Type 0} {H : B → List ℕ → Type 0} {K L : Kind} {s : List ℕ} where
  pub first : {r : List ℕ} {e : DecodeError} → Refusal G K s r e → Fails (Then G H) (FirstFault G K (λ a. L)) s e
  first h = let k = first-refused H {L = L} h in record { nothing = k.0; kind = k.1 }

  pub after : {m : List ℕ} {a : A} {e : DecodeError} → Accepts G s a m → Fails H L m e
      → Fails (Then G H) (FirstFault G K (λ a. L)) s e
  after a h = let k = then-refused H {K = K} a (failed h) in record { nothing = k.0; kind = k.1 }

  pub and : {m r : List ℕ} {a : A} {b : B} → Accepts G s a m → Gives H L m r b
      → Gives (Then G H) (FirstFault G K (λ a. L)) s r (a, b)
  and a h = let k = then-read H {K = K} a (given h) in record { all = k.0; more = k.1 }

-- ---- a part that may be left out

-- a part of F begins with the tag, and what P says does not
pub record Apart {A B : Type 0} (t : TagName) (F : Format A) (P : Format B) : Type 0 where
  pub begins : (s : List ℕ) (a : A) (r : List ℕ) → Spells F.spells s a r → HasTag t s
  pub apart : (b : B) (s : List ℕ) → P.spells b s → HasTag t s → ⊥

-- values around others, of two tags
pub around-apart : {A B : Type 0} (t u : TagName) (F : Format A) (P : Format B) → (t ≡ u → ⊥)
    → Apart t (around t F) (only (around u P))
around-apart t u F P other = record {
  begins = λ s a r h. leaf-tag t true F.spells s a r h;
  apart = tags-apart t u true P.spells other
      (λ b s h. (b, [], record { front = s; parts = sym (append-nil s); spelled = h }));
}

-- it isn't there; it may be, and one of the others isn't; it may be, and the others are
module _ {A B : Type 0} {t : TagName} {F : Format A} {P : Format B} (d : Apart t F P) {s : List ℕ} where
  pub perhaps : {r : List ℕ} {e : DecodeError} → HasTag t s × Refusal F.spells F.fault s r e
      → Fails (optional_then t F P).spells (optional_then t F P).fault s e
  perhaps h =
      let k = optional-refused (HasTag t) d.begins d.apart F.fault P.fault s h in
      record { nothing = k.0; kind = k.1 }

  module _ {X : Type 0} (view : X → A) {m : List ℕ} (p : Option X) (h : TakesWhere t view F s m (Ok p)) where
    pub past : {e : DecodeError} → Fails P.spells P.fault m e
        → Fails (optional_then t F P).spells (optional_then t F P).fault s e
    past k =
        let q = optional-then-refused (HasTag t) d.begins d.apart F.fault P.fault s view m p h (failed k) in
        record { nothing = q.0; kind = q.1 }

    pub past-and : {r : List ℕ} {b : B} → Gives P.spells P.fault m r b
        → Gives (optional_then t F P).spells (optional_then t F P).fault s r (optional_of view p, b)
    past-and k =
        let q = optional-then-read (HasTag t) d.begins d.apart F.fault P.fault s view m p h (given k) in
        record { all = q.0; more = q.1 }

-- the clause of an optional reader at a `?`
pub tried-where : {X V : Type 0} (t : TagName) (view : X → V) (F : Format V) {s r : List ℕ} {d : DecodeError}
    (x : Result (Option X) DecodeError) → IsErr x × IsErrAnd x (λ e. e ≡ d) → HasTag t s
    → Refusal F.spells F.fault s r d → TakesWhere t view F s r x
tried-where t view F {s} {r} {d} x h b k = where-tried (HasTag t) view F.spells F.fault s r d x h b k

-- ---- values of one type, none of which is written in no octets

module _ {V U : Type 0} (reads : Constructed → Result V DecodeError → Constructed → Type 0) where
  -- primitive values that stand for themselves
  pub takes-each-leaf : (t : TagName) (C : V → List ℕ → Type 0)
      → ((b a : Constructed) (x : Result V DecodeError) → reads b x a → Takes (λ v. v) (leaf t C) (left b) (left a) x)
      → (items : U → List V) (s r : List ℕ) (x : Result U DecodeError) → ReadsEach items Same reads s r x
      → TakesAll items (each (leaf t C)) s r x
  takes-each-leaf t C law items =
      read-each-itself (leaf t C).spells (leaf t C).fault reads law (leaf-some t false C) items

-- values around others; each stands for what view says of it
pub takes-each-around : {X V U : Type 0} (view : X → V) (t : TagName) (P : Format V)
    (reads : Constructed → Result X DecodeError → Constructed → Type 0)
    → ((b a : Constructed) (x : Result X DecodeError) → reads b x a → Takes view (around t P) (left b) (left a) x)
    → (items : U → List X) (s r : List ℕ) (x : Result U DecodeError) → ReadsEach items Same reads s r x
    → TakesAll (λ u. map view (items u)) (each (around t P)) s r x
takes-each-around view t P reads law items =
    read-each view (around t P).spells (around t P).fault reads law (leaf-some t true P.spells) items
