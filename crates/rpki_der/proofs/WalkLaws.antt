-- From what a walk reads and rejects: that nothing else is read or rejected.
use Rattle.std.proofs.Common.{◌≡◌, ◌≢◌, ◌⊎◌, ℕ, ◌<◌, ◌≤◌, true, false, List, [], ◌++◌, length, take, drop, refl, sym}
use Rattle.std.proofs.Common.{ap, ◌∙◌, subst, arith, inl, inr, Result, Ok, Err, IfOk, IfErr, take-append-drop}
use Rattle.std.proofs.Common.{length-append, append_assoc}
use Rattle.std.proofs.lemmas.List.{length-take-le, drop_at}
use Rattle.rpki_der.specs.declared.error.DecodeError.{DecodeError}
use Rattle.rpki_der.specs.declared.error.DecodeError.TheVariants.{Truncated, BadTag, BadLength, Unexpected, Content}
use Rattle.rpki_der.specs.declared.error.DecodeError.TheVariants.{Trailing, OutOfMemory}
use Rattle.rpki_der.specs.Reading.{Spells, Accepts, Refuses, Refusal, OrMemoryWhere}
use Rattle.rpki_der.specs.Header.{tlv}
use Rattle.rpki_der.specs.Members.{Members, Empty, Primitive, Constructed, spell, HaveHeaders, IsValue, IsValueOf}
use Rattle.rpki_der.specs.Members.{SpellsValue}
use Rattle.rpki_der.specs.NestedFault.{IsNestedFault, IsCaptureFault}
use Rattle.rpki_der.specs.Walk.{HasEither, SpellsAnyValue, CountsHeaders}
use Rattle.rpki_der.proofs.ReadingLaws.{UnlessMemory-from, Refusal-weaker, Refusal-or-memory-where}
use Rattle.rpki_der.proofs.MembersLaws.{one-beginning, half-of, value-some}
use Rattle.rpki_der.proofs.NestedFaultLaws.{fault-or-value, fault-not-empty, fault-kinds, one-fault}

-- what a spelling of a value begins with is the value
value-parts : {s v r : List ℕ} → Spells SpellsValue s v r → s ≡ v ++ r
value-parts {s} {v} {r} sp = sp.parts ∙ ap (λ (x : List ℕ). x ++ r) sp.spelled.same

no-value : {s : List ℕ} {e : DecodeError} → IsNestedFault s e → Refuses SpellsValue s
no-value fault v r sp = fault-or-value r fault sp.spelled.value (value-parts sp)

-- no fault is an allocation failure
pub nested-no-memory : {s : List ℕ} → IsNestedFault s OutOfMemory → ⊥
nested-no-memory fault = kinds (fault-kinds fault)
  where
    kinds : (OutOfMemory ≡ Truncated) ⊎ (OutOfMemory ≡ BadTag) ⊎ (OutOfMemory ≡ BadLength) → ⊥
    kinds (inl e) = cc e
    kinds (inr (inl e)) = cc e
    kinds (inr (inr e)) = cc e

pub capture-fault : {s : List ℕ} {e : DecodeError} → s ≢ [] → IsCaptureFault s e → IsNestedFault s e
capture-fault some (inl z) = absurd (some z.0)
capture-fault some (inr f) = f

-- a fault, or allocation failure where P holds
pub refusal-of : (P : List ℕ → Type 0) (s : List ℕ) (e : DecodeError) → ((e ≡ OutOfMemory) × P s) ⊎ IsNestedFault s e
    → Refusal SpellsValue (OrMemoryWhere P IsCaptureFault) s s e
refusal-of P s e (inl z) = subst (λ (x : DecodeError). Refusal SpellsValue (OrMemoryWhere P IsCaptureFault) s s x)
    (sym z.0) (record { unchanged = refl; refuses = tt; kind = z.1 })
refusal-of P s e (inr f) = Refusal-or-memory-where P IsCaptureFault s s e (λ k. absurd (none k))
    (record { unchanged = refl; refuses = UnlessMemory-from e (no-value f); kind = inr f })
  where
    none : IsCaptureFault s OutOfMemory → ⊥
    none (inl z) = let x = z.1 in cc x
    none (inr g) = nested-no-memory g

-- an error is the fault, or allocation failure
pub error-named : {A : Type 0} (P : List ℕ → Type 0) (s : List ℕ) (d : DecodeError)
    → ((d ≡ OutOfMemory) × P s) ⊎ IsNestedFault s d → s ≢ [] → (e : DecodeError) → IsCaptureFault s e
    → (◌≡◌ {A = Result A DecodeError} (Err d) (Err OutOfMemory)) ⊎ (◌≡◌ {A = Result A DecodeError} (Err d) (Err e))
error-named P s d (inl h) some e f = inl (ap (λ (x : DecodeError). Err x) h.0)
error-named P s d (inr h) some e f = inr (ap (λ (x : DecodeError). Err x) (one-fault h (capture-fault some f) refl))

-- an error that is passed on
pub error-passed : {A B : Type 0} {d e : DecodeError}
    → (◌≡◌ {A = Result A DecodeError} (Err d) (Err OutOfMemory)) ⊎ (◌≡◌ {A = Result A DecodeError} (Err d) (Err e))
    → (◌≡◌ {A = Result B DecodeError} (Err d) (Err OutOfMemory)) ⊎ (◌≡◌ {A = Result B DecodeError} (Err d) (Err e))
error-passed (inl z) = inl cc
error-passed (inr z) = inr cc

pub no-error : {A : Type 0} {x : A} {e : DecodeError}
    → (◌≡◌ {A = Result A DecodeError} (Ok x) (Err OutOfMemory)) ⊎ (◌≡◌ {A = Result A DecodeError} (Ok x) (Err e)) → ⊥
no-error (inl z) = cc z
no-error (inr z) = cc z

-- where a value begins, nothing is wrong
pub value-faultless : (s : List ℕ) (m k : ℕ) (e : DecodeError) → IsValueOf m (take k s) → s ≢ [] → IsCaptureFault s e
    → ⊥
value-faultless s m k e a some f = fault-or-value (drop k s) (capture-fault some f) a.0 (sym (take-append-drop k s))

module _ (P : List ℕ → Type 0) (r : Result ℕ DecodeError) (s : List ℕ) (m : ℕ) (within : IfOk r (λ k. k ≤ length s))
    (accepted : IfOk r (λ k. IsValueOf m (take k s)))
    (refused : IfErr r (λ e. ((e ≡ OutOfMemory) × P s) ⊎ IsNestedFault s e)) where
  pub front-accepted : IfOk r (λ k. Accepts SpellsValue s (take k s) (drop k s))
  front-accepted = go r within accepted
    where
      go : (r : Result ℕ DecodeError) → IfOk r (λ k. k ≤ length s) → IfOk r (λ k. IsValueOf m (take k s))
          → IfOk r (λ k. Accepts SpellsValue s (take k s) (drop k s))
      go (Ok k) w a = record {
        spells = record {
          front = take k s;
          parts = sym (take-append-drop k s);
          spelled = record
              { same = refl; value = a.0 };
        };
        only = λ v q sp.
            let parts : s ≡ v ++ q = value-parts sp in
            let same = one-beginning (take k s) v (drop k s) q a.0 sp.spelled.value (take-append-drop k s ∙ parts) in
            let size : length v ≡ k = ap length (sym same.0) ∙ length-take-le k s w in
            (sym same.0, sym (ap (λ (x : List ℕ). drop k x) parts ∙ drop_at v q k size));
      }
      go (Err e) w a = tt

  pub front-counted : IfOk r (λ k. CountsHeaders s (drop k s) m)
  front-counted = go r accepted
    where
      go : (r : Result ℕ DecodeError) → IfOk r (λ k. IsValueOf m (take k s))
          → IfOk r (λ k. CountsHeaders s (drop k s) m)
      go (Ok k) a =
          record { value = take k s; parts = sym (take-append-drop k s); headers = a; half = half-of (take k s) m a }
      go (Err e) a = tt

  pub front-refused : IfErr r (λ e. Refusal SpellsValue (OrMemoryWhere P IsCaptureFault) s s e)
  front-refused = go r refused
    where
      go : (r : Result ℕ DecodeError) → IfErr r (λ e. ((e ≡ OutOfMemory) × P s) ⊎ IsNestedFault s e)
          → IfErr r (λ e. Refusal SpellsValue (OrMemoryWhere P IsCaptureFault) s s e)
      go (Ok k) f = tt
      go (Err e) f = refusal-of P s e f

  pub fault-named : s ≢ [] → (e : DecodeError) → IsCaptureFault s e → (r ≡ Err OutOfMemory) ⊎ (r ≡ Err e)
  fault-named some e f = go r accepted refused
    where
      go : (r : Result ℕ DecodeError) → IfOk r (λ k. IsValueOf m (take k s))
          → IfErr r (λ d. ((d ≡ OutOfMemory) × P s) ⊎ IsNestedFault s d) → (r ≡ Err OutOfMemory) ⊎ (r ≡ Err e)
      go (Ok k) a g = absurd (value-faultless s m k e a some f)
      go (Err d) a g = error-named P s d g some e f

-- ---- one value, whichever

value-of-any : {s r : List ℕ} {v : Unit {0}} (sp : Spells SpellsAnyValue s v r) → Spells SpellsValue s sp.front r
value-of-any sp = record { front = sp.front; parts = sp.parts; spelled = record { same = refl; value = sp.spelled } }

pub any-accepted : {s v r : List ℕ} → Accepts SpellsValue s v r → Accepts SpellsAnyValue s tt r
any-accepted {s} {v} {r} a = record {
  spells = record { front = v; parts = value-parts a.spells; spelled = a.spells.spelled.value };
  only = λ w q sp. (refl, (a.only sp.front q (value-of-any sp)).1);
}

pub any-refused : {P : List ℕ → Type 0} {s r : List ℕ} {e : DecodeError} → s ≢ []
    → Refusal SpellsValue (OrMemoryWhere P IsCaptureFault) s r e
    → Refusal SpellsAnyValue (OrMemoryWhere P IsNestedFault) s r e
any-refused {P} {s} {r} {e} some h = Refusal-weaker (λ none v q sp. none sp.front q (value-of-any sp)) (kind e) h
  where
    kind : (e : DecodeError) → OrMemoryWhere P IsCaptureFault s e → OrMemoryWhere P IsNestedFault s e
    kind Truncated k = capture-fault some k
    kind BadTag k = capture-fault some k
    kind BadLength k = capture-fault some k
    kind Unexpected k = capture-fault some k
    kind (Content x) k = capture-fault some k
    kind Trailing k = capture-fault some k
    kind OutOfMemory k = k

-- a fault, of a reader that allocates nothing
pub nested-refused : {s : List ℕ} {e : DecodeError} → IsNestedFault s e → Refusal SpellsAnyValue IsNestedFault s s e
nested-refused {s} {e} fault = record {
  unchanged = refl;
  refuses = UnlessMemory-from e (λ v q sp. no-value fault sp.front q (value-of-any sp));
  kind = fault;
}

-- what a value begins is something
pub some-left : {s v r : List ℕ} → Accepts SpellsValue s v r → s ≢ []
some-left {s} {v} {r} a z =
    let parts = value-parts a.spells in
    omega (arith, value-some a.spells.spelled.value, ap length (sym z ∙ parts), length-append v r)

-- ---- capturing

-- one value is a value of some form
has-either : {s v r : List ℕ} → Accepts SpellsValue s v r → HasEither s
has-either {s} {v} {r} a =
    go value.members value.legal value.spelled (omega (arith, value-some value, ap length value.spelled))
  where
    value : IsValue v
    value = a.spells.spelled.value

    parts : (front more : List ℕ) → v ≡ front ++ more → s ≡ front ++ (more ++ r)
    parts front more is = value-parts a.spells ∙ ap (λ (x : List ℕ). x ++ r) is ∙ append_assoc front more r

    go : (vs : Members) → HaveHeaders vs → v ≡ spell vs → 0 < length (spell vs) → HasEither s
    go Empty h is some = absurd (omega arith)
    go (Primitive t c rest) h is some = (
      false,
      (
        t,
        c,
        spell rest ++ r,
        record {
          front = tlv t false c;
          parts = parts (tlv t false c) (spell rest) is;
          spelled =
              record { tag = h.0.0; fits = h.0.1; octets = refl };
        },
      ),
    )
    go (Constructed t ms rest) h is some = (
      true,
      (
        t,
        spell ms,
        spell rest ++ r,
        record {
          front = tlv t true (spell ms);
          parts = parts (tlv t true (spell ms)) (spell rest) is;
          spelled = record
              { tag = h.0.0; fits = h.0.1; octets = refl };
        },
      ),
    )

-- a value is there, and could not be shared
pub capture-memory : {s v r : List ℕ} → Accepts SpellsValue s v r
    → Refusal SpellsValue (OrMemoryWhere HasEither IsCaptureFault) s s OutOfMemory
capture-memory a = record { unchanged = refl; refuses = tt; kind = has-either a }

-- nothing remains, wherever allocation may fail
pub capture-nothing : (P : List ℕ → Type 0) (s : List ℕ) → s ≡ []
    → Refusal SpellsValue (OrMemoryWhere P IsCaptureFault) s s Truncated
capture-nothing P s z = record {
  unchanged = refl;
  refuses = λ v r sp. omega (arith, value-some sp.spelled.value, ap length (sym z ∙ value-parts sp), length-append v r);
  kind = inl (z, refl);
}

pub nothing-fault : {s : List ℕ} {e : DecodeError} → s ≡ [] → IsCaptureFault s e → e ≡ Truncated
nothing-fault none (inl z) = z.1
nothing-fault none (inr f) = absurd (fault-not-empty f none)
