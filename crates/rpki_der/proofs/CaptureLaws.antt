-- What a reader reads, kept: the reader of a grammar of values is one of the values themselves.
use Rattle.std.proofs.Common.{◌≡◌, ◌≤◌, ◌-◌, ◌⊎◌, inl, inr, ℕ, List, [], ◌∷◌, ◌++◌, length, length-append, take, drop}
use Rattle.std.proofs.Common.{length-drop, Result, Ok, Err, refl, sym, ap, subst, ◌∙◌, arith}
use Rattle.std.proofs.lemmas.List.{append_cancel_right, take-append-drop}
use Rattle.rpki_der.specs.declared.error.DecodeError.{DecodeError}
use Rattle.rpki_der.specs.declared.error.DecodeError.TheVariants.{OutOfMemory}
use Rattle.rpki_der.specs.declared.cursor.Constructed.{Constructed}
use Rattle.rpki_der.specs.Cursor.{left}
use Rattle.rpki_der.specs.Reading.{Spells, Accepts, Refuses, Refusal, Reads, Finds, UnlessMemory}
use Rattle.rpki_der.specs.Members.{IsValueList}
use Rattle.rpki_der.specs.Composed.{Whole}
use Rattle.rpki_der.specs.Capture.{NotCaptured, Captures, SpellsKept, IsCapturedFault}
use Rattle.rpki_der.specs.Capture.NotCaptured.{RefusedCapture, Grown, NotKept}
use Rattle.rpki_der.proofs.ReadingLaws.{UnlessMemory-weaker, Refusal-weaker, or-memory-where}
use Rattle.rpki_der.proofs.InsideLaws.{Same}

-- ---- the octets that were read

pub both-parts : (s front following : List ℕ) (size : ℕ) → front ≡ take size s → following ≡ drop size s
    → s ≡ front ++ following
both-parts s front following size p q = rw (p, q) (sym (take-append-drop size s))

pub as-many : (s d following : List ℕ) (n m size : ℕ) → n ≡ length s → m ≡ length d → (m ≤ n) × (size ≡ n - m)
    → following ≡ drop size s → length following ≡ length d
as-many s d following n m size p q e f = omega (arith, p, q, e.0, e.1, ap length f, length-drop size s)

-- lists of one length end in one place
pub same-ends : (a b x y : List ℕ) → a ++ x ≡ b ++ y → length x ≡ length y → (a ≡ b) × (x ≡ y)
same-ends [] [] x y e l = (refl, e)
same-ends [] (b ∷ bs) x y e l = absurd (omega (arith, l, ap length e, length-append bs y))
same-ends (a ∷ ends) [] x y e l = absurd (omega (arith, l, ap length e, length-append ends x))
same-ends (a ∷ ends) (b ∷ bs) x y e l =
    let tails : ends ++ x ≡ bs ++ y = cc in
    let heads : a ≡ b = cc in
    let both = same-ends ends bs x y tails l in
    let one = both.0 in
    (cc, both.1)

-- ---- the reader of a grammar of values

module _ {X V : Type 0} (view : X → V) (G : V → List ℕ → Type 0) (K : List ℕ → DecodeError → Type 0)
    (are : (v : V) (p : List ℕ) → G v p → IsValueList p)
    (reads : Constructed → Result X DecodeError → Constructed → Type 0)
    (law : (b a : Constructed) (x : Result X DecodeError) → reads b x a → Reads view G K (left b) (left a) x) where
  accepted : (s d : List ℕ) (x : X) → Whole reads s (Ok x) d → Accepts G s (view x) d
  accepted s d x h = subst (λ q. Accepts G q (view x) d) h.all
      (subst (λ q. Accepts G (left h.before) (view x) q) h.rest (law h.before h.after (Ok x) h.read))

  refused : (s d : List ℕ) (e : DecodeError) → Whole reads s (Err e) d → UnlessMemory e (Refuses G s) × K s e
  refused s d e h =
      let k = law h.before h.after (Err e) h.read in
      subst (λ q. UnlessMemory e (Refuses G q) × K q e) h.all (k.refuses, k.kind)

  kept-refused : (s : List ℕ) → Refuses G s → Refuses (SpellsKept G) s
  kept-refused s none v r h = none h.spelled.value r
      (record {
        front = h.front;
        parts = h.parts;
        spelled = subst (G h.spelled.value) (sym h.spelled.same)
            h.spelled.spelled;
      })

  not-captured : (s : List ℕ) (e : DecodeError) → NotCaptured Same reads s e
      → Refusal (SpellsKept G) (IsCapturedFault G K) s s e
  not-captured s e (RefusedCapture d h) =
      let k = refused s d e h in
      record {
        unchanged = refl;
        refuses = UnlessMemory-weaker e (kept-refused s) k.0;
        kind = or-memory-where
            (λ q. K q OutOfMemory ⊎ Finds G q) K s e (λ m. inl m) k.1;
      }
  not-captured s e (Grown x d h more same) =
      let a = accepted s d x h in
      absurd (omega (arith, more, ap length a.spells.parts, length-append a.spells.front d))
  not-captured s e (NotKept x d front rest c h parts size values same) =
      let a = accepted s d x h in
      let one : front ≡ a.spells.front = (same-ends front a.spells.front rest d (sym parts ∙ a.spells.parts) size).0 in
      let memory : e ≡ OutOfMemory = same ∙ values
      (subst IsValueList (sym one) (are (view x) a.spells.front a.spells.spelled)) in
      rw memory (record { unchanged = refl; refuses = tt; kind = inr (view x, d, a.spells) })

  pub read-captured : (s r : List ℕ) (x : Result (List ℕ) DecodeError) → Captures Same reads s r x
      → Reads (λ c. c) (SpellsKept G) (IsCapturedFault G K) s r x
  read-captured s r (Ok c) (x, d, h, parts, size) =
      let a = accepted s d x h in
      let ends = same-ends c a.spells.front r d (sym parts ∙ a.spells.parts) size in
      record {
        spells = record {
          front = c;
          parts = parts;
          spelled = record
              { same = refl; value = view x; spelled = subst (G (view x)) (sym ends.0) a.spells.spelled };
        };
        only = λ w q k.
            let l = a.only k.spelled.value q
            (record {
              front = k.front;
              parts = k.parts;
              spelled = subst (G k.spelled.value) (sym k.spelled.same)
                  k.spelled.spelled;
            }) in
            let whole : k.front ++ r ≡ c ++ r = subst (λ (z : List ℕ). k.front ++ z ≡ c ++ r) (l.1 ∙ sym ends.1)
            (sym k.parts ∙ parts) in
            (sym k.spelled.same ∙ append_cancel_right k.front c r whole, l.1 ∙ sym ends.1);
      }
  read-captured s r (Err e) (same, h) =
      subst (λ q. Refusal (SpellsKept G) (IsCapturedFault G K) s q e) (sym same) (not-captured s e h)

-- ---- the same reader, in the words of another grammar and of other errors

spells-as : {V : Type 0} {G H : V → List ℕ → Type 0} (s : List ℕ) (v : V) (r : List ℕ)
    → ((w : V) (p : List ℕ) → G w p → H w p) → Spells G s v r → Spells H s v r
spells-as s v r f h = record { front = h.front; parts = h.parts; spelled = f v h.front h.spelled }

pub reads-as : {X V : Type 0} (view : X → V) (G H : V → List ℕ → Type 0) (K L : List ℕ → DecodeError → Type 0)
    (s r : List ℕ) (x : Result X DecodeError)
    → ((v : V) (p : List ℕ) → G v p → H v p) → ((v : V) (p : List ℕ) → H v p → G v p)
    → ((e : DecodeError) → K s e → L s e) → Reads view G K s r x → Reads view H L s r x
reads-as view G H K L s r (Ok x) f g k h =
    record { spells = spells-as s (view x) r f h.spells; only = λ w q l. h.only w q (spells-as s w q g l) }
reads-as view G H K L s r (Err e) f g k h = Refusal-weaker (λ none v q l. none v q (spells-as s v q g l)) (k e) h
