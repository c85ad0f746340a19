-- Values of one type, in sequence, over the reader of one.
use Rattle.std.proofs.Common.{◌≡◌, ◌≢◌, ◌<◌, ◌≤◌, ◌⊎◌, ◌++◌, ℕ, Bool, List, [], ◌∷◌, length, Result, Ok, Err, inl, inr}
use Rattle.std.proofs.Common.{refl, sym, ap, subst, ◌∙◌, arith, length-append}
use Rattle.std.specs.Prelude.{map}
use Rattle.std.proofs.lemmas.List.{map-id}
use Rattle.rpki_der.specs.declared.error.DecodeError.{DecodeError}
use Rattle.rpki_der.specs.declared.error.DecodeError.TheVariants.{Trailing, OutOfMemory}
use Rattle.rpki_der.specs.declared.cursor.Constructed.{Constructed}
use Rattle.rpki_der.specs.Cursor.{left}
use Rattle.rpki_der.specs.TagName.{TagName}
use Rattle.rpki_der.specs.Values.{SpellsLeaf}
use Rattle.rpki_der.specs.Reading.{Spells, Accepts, Refuses, Reads, SpellsNothing, UnlessMemory, OrMemoryWhere, Finds}
use Rattle.rpki_der.specs.Composed.{Whole}
use Rattle.rpki_der.specs.FirstFault.{RepeatedFault, ReadsParts}
use Rattle.rpki_der.specs.FirstFault.RepeatedFault.{AtMember, AfterMember}
use Rattle.rpki_der.specs.Each.{SpellsEach, IsEachFault, EachRead, NotEach, ReadsEach}
use Rattle.rpki_der.specs.Each.EachRead.{NoneRead, NextRead}
use Rattle.rpki_der.specs.Each.NotEach.{RefusedNext, Unmoved, NotKept}
use Rattle.rpki_der.proofs.ReadingLaws.{UnlessMemory-weaker}
use Rattle.rpki_der.proofs.InsideLaws.{Same}
use Rattle.rpki_der.proofs.EncodeLaws.{tlv-at-least}
use Rattle.rpki_der.proofs.FirstFaultLaws.{memory-where}

-- one call more
pub next-read : {X E : Type 0} (reads : Constructed → Result X E → Constructed → Type 0) (s m r : List ℕ) (xs : List X)
    (x : X)
    → EachRead reads s xs m → m ≢ [] → Whole reads m (Ok x) r → length r < length m
    → EachRead reads s (xs ++ (x ∷ [])) r
next-read reads s m r [] x NoneRead some w short = NextRead some w short NoneRead
next-read reads s m r (y ∷ ys) x (NextRead more v less h) some w short =
    NextRead more v less (next-read reads _ m r ys x h some w short)

-- ---- the law of take_each, for a reader of a grammar in which nothing is written in no octets

module _ {X V : Type 0} (view : X → V) (G : V → List ℕ → Type 0) (K : List ℕ → DecodeError → Type 0)
    (reads : Constructed → Result X DecodeError → Constructed → Type 0)
    (law : (b a : Constructed) (x : Result X DecodeError) → reads b x a → Reads view G K (left b) (left a) x)
    (nowhere : (v : V) → G v [] → ⊥) where
  accepted : (s r : List ℕ) (x : X) → Whole reads s (Ok x) r → Accepts G s (view x) r
  accepted s r x w =
      subst (λ (q : List ℕ). Accepts G q (view x) r) w.all
      (subst (Accepts G (left w.before) (view x)) w.rest (law w.before w.after (Ok x) w.read))

  refused : (s r : List ℕ) (e : DecodeError) → Whole reads s (Err e) r → UnlessMemory e (Refuses G s) × K s e
  refused s r e w =
      let h = law w.before w.after (Err e) w.read in
      subst (λ (q : List ℕ). UnlessMemory e (Refuses G q) × K q e) w.all (h.refuses, h.kind)

  empty : (v : V) (r : List ℕ) → Spells G [] v r → ⊥
  empty v r h = nowhere v (subst (G v) (none h.front r h.parts) h.spelled) where
    none : (p q : List ℕ) → [] ≡ p ++ q → p ≡ []
    none [] q e = refl
    none (y ∷ ys) q e = absurd (cc)

  spelled : (s r : List ℕ) (xs : List X) → EachRead reads s xs r → r ≡ [] → SpellsEach G (map view xs) s
  spelled s r [] NoneRead end = end
  spelled s r (x ∷ xs) (NextRead some w short h) end = (_, (accepted s _ x w).spells, spelled _ r xs h end)

  only : (s r : List ℕ) (xs : List X) → EachRead reads s xs r → r ≡ [] → (vs : List V) → SpellsEach G vs s
      → vs ≡ map view xs
  only s r [] NoneRead end [] k = refl
  only s r [] NoneRead end (v ∷ vs) k = absurd (empty v k.0 (subst (λ (q : List ℕ). Spells G q v k.0) end k.1))
  only s r (x ∷ xs) (NextRead some w short h) end [] k = absurd (some k)
  only s r (x ∷ xs) (NextRead some w short h) end (v ∷ vs) k =
      let is = (accepted s _ x w).only v k.0 k.1 in
      let others = only _ r xs h end vs (subst (SpellsEach G vs) is.1 k.2) in
      ap (λ (y : V). y ∷ vs) is.0 ∙ ap (λ (ys : List V). view x ∷ ys) others

  nothing : (s m : List ℕ) (xs : List X) → EachRead reads s xs m → SpellsNothing (SpellsEach G) m
      → SpellsNothing (SpellsEach G) s
  nothing s m [] NoneRead none vs k = none vs k
  nothing s m (x ∷ xs) (NextRead some w short h) none [] k = some k
  nothing s m (x ∷ xs) (NextRead some w short h) none (v ∷ vs) k =
      let is = (accepted s _ x w).only v k.0 k.1 in
      nothing _ m xs h none vs (subst (SpellsEach G vs) is.1 k.2)

  not-here : (m : List ℕ) → m ≢ [] → Refuses G m → SpellsNothing (SpellsEach G) m
  not-here m some none [] k = some k
  not-here m some none (v ∷ vs) k = none v k.0 k.1

  fault : (L : List ℕ → DecodeError → Type 0) (s m : List ℕ) (xs : List X) (e : DecodeError) → EachRead reads s xs m
      → RepeatedFault G L m e → RepeatedFault G L s e
  fault L s m [] e NoneRead f = f
  fault L s m (x ∷ xs) e (NextRead some w short h) f = AfterMember (view x) _ (accepted s _ x w) (fault L _ m xs e h f)

  abbrev Memory : List ℕ → Type 0
  Memory m = K m OutOfMemory ⊎ Finds G m

  not-each : (s : List ℕ) (e : DecodeError) → NotEach Same reads s e
      → UnlessMemory e (SpellsNothing (SpellsEach G) s) × IsEachFault G K s e
  not-each s e (RefusedNext xs m d h some w) =
      let k = refused m d e w in (
        UnlessMemory-weaker e (λ none. nothing s m xs h (not-here m some none)) k.0,
        fault (OrMemoryWhere Memory K) s m xs e h
            (AtMember some k.0 (memory-where Memory K m e (λ z. inl (subst (K m) z k.1)) k.1)),
      )
  not-each s e (Unmoved xs m x d h some w long same) =
      let a = (accepted m d x w).spells in absurd (stays a.front m d (view x) a.parts a.spelled long) where
        stays : (p m d : List ℕ) (v : V) → m ≡ p ++ d → G v p → length m ≤ length d → ⊥
        stays [] m d v is g le = nowhere v g
        stays (y ∷ ys) m d v is g le = omega (arith, ap length is, length-append (y ∷ ys) d)
  not-each s e (NotKept xs m x d h some w same) =
      subst (λ (q : DecodeError). UnlessMemory q (SpellsNothing (SpellsEach G) s) × IsEachFault G K s q) (sym same) (
        tt,
        fault (OrMemoryWhere Memory K) s m xs OutOfMemory h
            (AtMember some tt (inr (view x, d, (accepted m d x w).spells))),
      )

  pub read-each : {U : Type 0} (items : U → List X) (s r : List ℕ) (x : Result U DecodeError)
      → ReadsEach items Same reads s r x
      → ReadsParts (λ u. map view (items u)) (SpellsEach G) (IsEachFault G K) s r x
  read-each items s r (Ok u) h =
      (λ end. (spelled s [] (items u) h.1 refl, only s [] (items u) h.1 refl), λ some. absurd (some h.0))
  read-each items s r (Err e) h = not-each s e h.1

-- the same where a value stands for itself
pub read-each-itself : {V U : Type 0} (G : V → List ℕ → Type 0) (K : List ℕ → DecodeError → Type 0)
    (reads : Constructed → Result V DecodeError → Constructed → Type 0)
    (law : (b a : Constructed) (x : Result V DecodeError) → reads b x a → Reads (λ v. v) G K (left b) (left a) x)
    (nowhere : (v : V) → G v [] → ⊥) (items : U → List V) (s r : List ℕ) (x : Result U DecodeError) → ReadsEach items
    Same reads s r x
    → ReadsParts items (SpellsEach G) (IsEachFault G K) s r x
read-each-itself {V} G K reads law nowhere items s r (Ok u) h =
    subst (λ (vs : List V). (r ≡ [] → SpellsEach G vs s × ((ws : List V) → SpellsEach G ws s → ws ≡ vs)) ×
    (r ≢ [] → SpellsNothing (SpellsEach G) s × IsEachFault G K s Trailing))
    (map-id (items u)) (read-each (λ v. v) G K reads law nowhere items s r (Ok u) h)
read-each-itself G K reads law nowhere items s r (Err e) h =
    read-each (λ v. v) G K reads law nowhere items s r (Err e) h

-- a value of a tag is written in some octets
pub leaf-some : {V : Type 0} (t : TagName) (f : Bool) (C : V → List ℕ → Type 0) (v : V) → SpellsLeaf t f C v [] → ⊥
leaf-some t f C v h = omega (arith, ap length h.value.octets, tlv-at-least t f h.contents)
