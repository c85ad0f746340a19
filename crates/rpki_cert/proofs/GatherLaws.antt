-- Values, in sequence, of which a reader in place keeps what it needs.
use Rattle.std.proofs.Common.{◌≡◌, ◌≢◌, ◌∙◌, ℕ, Bool, List, [], ◌∷◌, Result, Ok, Err, refl, sym, ap, subst}
use Rattle.rpki_der.specs.TagName.{TagName}
use Rattle.rpki_der.specs.Reading.{Accepts, Refuses, SpellsNothing}
use Rattle.rpki_der.specs.Values.{SpellsContents, SpellsLeaf}
use Rattle.rpki_der.specs.Each.{SpellsEach, SpellsSome}
use Rattle.rpki_der.proofs.LeavesLaws.{leaf-value}
use Rattle.rpki_der.proofs.ComposedLaws.{inner-accepted}
use Rattle.rpki_cert.specs.Access.{Through}
use Rattle.rpki_x509.specs.InPlace.{Gives, GivesAll}
use Rattle.rpki_cert.proofs.SomeLaws.{none-some, some-there}

-- ---- a value around parts

module _ {V : Type 0} (t : TagName) (f : Bool) (C : V → List ℕ → Type 0) (s : List ℕ) where
  -- what a reader says of all of the contents it says of the value
  pub leaf-gives : {X E : Type 0} (view : X → V) (c r : List ℕ) (x : Result X E) → Accepts (SpellsContents t f) s c r
      → GivesAll view C c x → Gives view (SpellsLeaf t f C) s r x
  leaf-gives view c r (Ok x) a h = inner-accepted t f C s c r (view x) a h
  leaf-gives view c r (Err e) a none = λ v q k.
      let l = leaf-value t f C s v q k in
      let one = a.only l.0 q l.1 in
      none v (subst (λ (d : List ℕ). C v d) one.0 l.2)

  -- no contents, and so no value
  pub leaf-nothing : (c : List ℕ) → SpellsContents t f c s × ((w : List ℕ) → SpellsContents t f w s → w ≡ c)
      → SpellsNothing C c → SpellsNothing (SpellsLeaf t f C) s
  leaf-nothing c a none v k = none v (subst (λ (d : List ℕ). C v d) (a.1 k.contents k.value) k.spelled)

  -- the same where the value is all there is
  pub leaf-all : {X E : Type 0} (view : X → V) (c : List ℕ) (x : Result X E)
      → SpellsContents t f c s × ((w : List ℕ) → SpellsContents t f w s → w ≡ c) → GivesAll view C c x
      → GivesAll view (SpellsLeaf t f C) s x
  leaf-all view c (Ok x) a h = (
    record { contents = c; value = a.0; spelled = h.0 },
    λ w k. h.1 w (subst (λ (d : List ℕ). C w d) (a.1 k.contents k.value) k.spelled),
  )
  leaf-all view c (Err e) a none = leaf-nothing c a none

  pub leaf-none : SpellsNothing (SpellsContents t f) s → SpellsNothing (SpellsLeaf t f C) s
  leaf-none none v k = none k.contents k.value

-- ---- values, in sequence

pub each-rest : {V : Type 0} (G : V → List ℕ → Type 0) (s q : List ℕ) (v : V) (ys : List V) → s ≢ [] → Accepts G s v q
    → SpellsEach G ys s → (zs : List V) × (ys ≡ v ∷ zs) × SpellsEach G zs q
each-rest G s q v [] some a h = absurd (some h)
each-rest {V} G s q v (y ∷ zs) some a h = let e =
    a.only y h.0 h.1 in (zs, ap (λ (w : V). w ∷ zs) e.0, subst (SpellsEach G zs) e.1 h.2)

pub each-none : {V : Type 0} (G : V → List ℕ → Type 0) (s : List ℕ) (ys : List V) → s ≢ [] → Refuses G s
    → SpellsEach G ys s → ⊥
each-none G s [] some none h = some h
each-none G s (y ∷ zs) some none h = none y h.0 h.1

each-end : {V : Type 0} (G : V → List ℕ → Type 0) → ((v : V) → G v [] → ⊥) → (s : List ℕ) → s ≡ [] → (ys : List V)
    → SpellsEach G ys s → ys ≡ []
each-end G nowhere s end [] h = refl
each-end {V} G nowhere s end (y ∷ ys) h = absurd
    (none-some G nowhere s end (y ∷ ys) (record { some = λ e. nothing e; each = h }))
  where
    nothing : ◌≡◌ {A = List V} (y ∷ ys) [] → ⊥
    nothing e = cc

-- what f makes of the values of s is what step makes of that of the values of r
pub record Gathers {V U : Type 0} (G : V → List ℕ → Type 0) (f : List V → U) (step : U → U)
    (s r : List ℕ) : Type 0 where
  pub whole : (zs : List V) → SpellsEach G zs r → (xs : List V) × SpellsEach G xs s × (f xs ≡ step (f zs))
  pub back : (xs : List V) → SpellsEach G xs s → (zs : List V) × SpellsEach G zs r × (f xs ≡ step (f zs))

module _ {V U : Type 0} (G : V → List ℕ → Type 0) (f : List V → U) (s : List ℕ) where
  pub gathers-all : (step : U → U) → ((u : U) → u ≡ step u) → Gathers G f step s s
  gathers-all step same = record { whole = λ zs h. (zs, h, same (f zs)); back = λ xs h. (xs, h, same (f xs)) }

  pub gathers-on : (step next : U → U) (r q : List ℕ) (v : V) → ((zs : List V) → step (f (v ∷ zs)) ≡ next (f zs))
      → r ≢ [] → Gathers G f step s r → Accepts G r v q → Gathers G f next s q
  gathers-on step next r q v law some h a = record {
    whole = λ zs k. let (xs, each, e) = h.whole (v ∷ zs) (q, a.spells, k) in (xs, each, e ∙ law zs);
    back = λ xs k.
        let (ys, each, e) = h.back xs k in
        let (zs, is, rest) = each-rest G r q v ys some a each in
        (zs, rest, e ∙ ap (λ (ws : List V). step (f ws)) is ∙ law zs);
  }

  -- no value is at the front of the rest
  pub gathers-none : (step : U → U) (r : List ℕ) → r ≢ [] → Gathers G f step s r → Refuses G r
      → SpellsNothing (Through f (SpellsSome G)) s
  gathers-none step r some h none u k =
      let (zs, each, e) = h.back k.0 k.1.each in
      each-none G r zs some none each

  -- nothing remains
  pub gathers-end : ((v : V) → G v [] → ⊥) → (step : U → U) (r : List ℕ) (u : U) → s ≢ [] → r ≡ []
      → Gathers G f step s r → step (f []) ≡ u
      → Through f (SpellsSome G) u s × ((w : U) → Through f (SpellsSome G) w s → w ≡ u)
  gathers-end nowhere step r u some end h is =
      let (xs, each, e) = h.whole [] end in (
        (xs, some-there G s xs some each, sym (e ∙ is)),
        λ w k.
            let (zs, rest, same) = h.back k.0 k.1.each in
            k.2 ∙ same ∙ ap (λ (ws : List V). step (f ws)) (each-end G nowhere r end zs rest) ∙ is,
      )

  -- nothing is there
  pub gathers-nothing : ((v : V) → G v [] → ⊥) → s ≡ [] → SpellsNothing (Through f (SpellsSome G)) s
  gathers-nothing nowhere end u k = none-some G nowhere s end k.0 k.1
