-- What functions find, one part after another, is spelled by grammars.
use Rattle.std.proofs.Common.{◌≡◌, ◌∙◌, ◌^◌, ◌++◌, ℕ, suc, Bool, true, false, List, [], ◌∷◌, Result, Ok, Err, refl}
use Rattle.std.proofs.Common.{ap, subst, if◌then◌else◌, Option, None, Some}
use Rattle.std.proofs.lemmas.List.{append-nil}
use Rattle.rpki_der.specs.Prelude.{TagName, IsUnsignedBelow, Spells, SpellsContents, SpellsFor, SpellsLeaf}
use Rattle.rpki_der.specs.Prelude.{integer, sequence}
use Rattle.rpki_der.proofs.StepLaws.{IsBytes}
use Rattle.rpki_parse.specs.Words.{Parser, bind}
use Rattle.rpki_parse.specs.Parts.{at_part}
use Rattle.rpki_parse.specs.Value.{ended, tagged, value_at}
use Rattle.rpki_parse.specs.Leaf.{below_in, decided}
use Rattle.rpki_parse.specs.Optional.{optional_at}
use Rattle.rpki_parse.proofs.LeafLaws.{contents-bytes}
use Rattle.rpki_parse.proofs.DecisionLaws.{below_decides}
use Rattle.rpki_parse.proofs.BackLaws.{value-found, leaf-found}
use Rattle.rpki_contents.specs.Aspa.{as_number}
use Rattle.rpki_contents.specs.AspaView.{number_at}

pub bind-ok : {A B E : Type 0} (x : Result A E) (K : A → Result B E) (y : B) → bind x K ≡ Ok y
    → (z : A) × (x ≡ Ok z) × (K z ≡ Ok y)
bind-ok (Ok z) K y e = (z, refl, e)
bind-ok (Err n) K y e = absurd cc

pub ok-is : {A E : Type 0} (x y : A) → ◌≡◌ {A = Result A E} (Ok x) (Ok y) → x ≡ y
ok-is x y e = cc

pub pair-ok : {A B E : Type 0} {x y : A} {s r : B} → ◌≡◌ {A = Result (A × B) E} (Ok (x, s)) (Ok (y, r))
    → (x ≡ y) × (s ≡ r)
pair-ok {A} {B} {E} {x} {y} {s} {r} e =
    let p : (x, s) ≡ (y, r) = ok-is _ _ e in (ap (λ (q : A × B). q.0) p, ap (λ (q : A × B). q.1) p)

pub if-ok : {A : Type 0} (b : Bool) (x : Result A ℕ) (n : ℕ) (y : A) → (if b then x else Err n) ≡ Ok y
    → (b ≡ true) × (x ≡ Ok y)
if-ok true x n y e = (refl, e)
if-ok false x n y e = absurd cc

pub if-err : {A : Type 0} (b : Bool) (x : Result A ℕ) (n : ℕ) (y : A) → (if b then Err n else x) ≡ Ok y
    → (b ≡ false) × (x ≡ Ok y)
if-err true x n y e = absurd cc
if-err false x n y e = (refl, e)

-- the same of a part that errors name
pub part-ok : {A B P : Type 0} (p : P) (x : Result A ℕ) (K : A → Result B (P × ℕ)) (y : B)
    → bind (at_part p x) K ≡ Ok y → (z : A) × (x ≡ Ok z) × (K z ≡ Ok y)
part-ok p (Ok z) K y e = (z, refl, e)
part-ok p (Err n) K y e = absurd cc

pub decided-ok : {V : Type 0} (x : Option V) (y : V) (s r : List ℕ) → decided x s ≡ Ok (y, r) → (x ≡ Some y) × (s ≡ r)
decided-ok None y s r e = absurd cc
decided-ok (Some z) y s r e = let p = pair-ok e in (ap (λ (w : _). Some w) p.0, p.1)

pub ended-ok : (s : List ℕ) (u : Unit {0}) → ended s ≡ Ok u → s ≡ []
unfolding ended
ended-ok [] u e = refl
ended-ok (x ∷ xs) u e = absurd cc

-- a part that may be left out
abbrev pub IsOptional : {V : Type 0} → Parser V → List ℕ → Option V → List ℕ → Type 0
IsOptional p s None r = s ≡ r
IsOptional p s (Some v) r = p s ≡ Ok (v, r)

pub optional-ok : {V : Type 0} (t : TagName) (p : Parser V) (s : List ℕ) (o : Option V) (r : List ℕ)
    → optional_at t p s ≡ Ok (o, r) → IsOptional p s o r
optional-ok {V} t p s o r e = by (tagged t s) (p s) refl e where
  by : (b : Bool) (x : Result (V × List ℕ) ℕ) → p s ≡ x
      → (if b then bind {B = Option V × List ℕ} x (λ v. Ok (Some v.0, v.1)) else Ok (None, s)) ≡ Ok (o, r)
      → IsOptional p s o r
  by true (Ok v) is f =
      let q = pair-ok f in
      subst (λ (k : Option V). IsOptional p s k r) q.0 (subst (λ (k : List ℕ). p s ≡ Ok (v.0, k)) q.1 is)
  by true (Err n) is f = absurd cc
  by false x is f = let q = pair-ok f in subst (λ (k : Option V). IsOptional p s k r) q.0 q.1

-- what follows a part of octets is octets
pub after : (s r : List ℕ) → IsBytes (s ++ r) → IsBytes r
after [] r h = h
after (b ∷ s) r h = after s r (λ i. h (suc i))

pub following : {V : Type 0} {G : V → List ℕ → Type 0} {s : List ℕ} {v : V} {r : List ℕ} → IsBytes s → Spells G s v r
    → IsBytes r
following {V} {G} {s} {v} {r} b h = after h.front r (subst IsBytes h.parts b)

-- nothing follows
pub whole : {V : Type 0} {G : V → List ℕ → Type 0} {s : List ℕ} {v : V} {r : List ℕ} → r ≡ [] → Spells G s v r → G v s
whole {V} {G} {s} {v} {r} e h =
    let is : s ≡ h.front = h.parts ∙ ap (λ (q : List ℕ). h.front ++ q) e ∙ append-nil h.front in rw is h.spelled

pub number-found : (s : List ℕ) (n : ℕ) (r : List ℕ) → IsBytes s → number_at s ≡ Ok (n, r)
    → Spells as_number.spells s n r
number-found s n r b e =
    leaf-found integer (IsUnsignedBelow (2 ^ 32)) (below_in (2 ^ 32)) (below_decides (2 ^ 32)) s n r b e

-- a SEQUENCE in front of s, and its contents
pub front-found : {B : Type 0} (s : List ℕ) (K : List ℕ × List ℕ → Result B ℕ) (y : B) → IsBytes s
    → bind (value_at sequence true s) K ≡ Ok y
    → (c r : List ℕ) × Spells (SpellsContents sequence true) s c r × IsBytes c × (K (c, r) ≡ Ok y)
front-found s K y b e =
    let c = bind-ok (value_at sequence true s) K y e in
    let h = value-found sequence true s c.0.0 c.0.1 b c.1 in
    (c.0.0, c.0.1, h, contents-bytes sequence true s c.0.0 c.0.1 b h, c.2)

-- around a value, and with what holds of it
pub in-sequence : {V : Type 0} {G : V → List ℕ → Type 0} {s c r : List ℕ} {v : V}
    → Spells (SpellsContents sequence true) s c r → G v c → Spells (SpellsLeaf sequence true G) s v r
in-sequence {V} {G} {s} {c} {r} {v} h k =
    record { front = h.front; parts = h.parts; spelled = record { contents = c; value = h.spelled; spelled = k } }

pub such-is : {V O : Type 0} {G : O → List ℕ → Type 0} {R : V → O → Type 0} {s r : List ℕ} {o : O} {v : V}
    → Spells G s o r → R v o → Spells (SpellsFor G R) s v r
such-is {V} {O} {G} {R} {s} {r} {o} {v} h k =
    record { front = h.front; parts = h.parts; spelled = record { value = o; spelled = h.spelled; stands = k } }

-- one that is all of s
pub whole-found : (s c r : List ℕ) (u : Unit {0}) → IsBytes s → value_at sequence true s ≡ Ok (c, r) → ended r ≡ Ok u
    → SpellsContents sequence true c s × IsBytes c
whole-found s c r u b e f =
    let h = value-found sequence true s c r b e in
    (whole (ended-ok r u f) h, contents-bytes sequence true s c r b h)
