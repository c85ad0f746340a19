-- What a function finds is what the relations of rpki_der say: their clauses from an equation.
use Rattle.std.proofs.Common.{◌≡◌, ℕ, Bool, true, false, List, length, refl, sym, ap, ◌∙◌}
use Rattle.std.proofs.Common.{subst, Result, Ok, Err, Option, Some, None, nat_lt, if◌then◌else◌, take, drop}
use Rattle.std.specs.Prelude.{IfOk, IfErr}
use Rattle.std.proofs.lemmas.Bool.{ltb-false}
use Rattle.rpki_der.specs.declared.error.DecodeError.{DecodeError}
use Rattle.rpki_der.specs.declared.tag.Header.{Header}
use Rattle.rpki_der.specs.TagName.{TagName}
use Rattle.rpki_der.specs.HeaderReading.{header_at}
use Rattle.rpki_der.specs.Reading.{Spells, Accepts, Refuses}
use Rattle.rpki_der.specs.Values.{SpellsContents, SpellsLeaf}
use Rattle.rpki_der.proofs.StepLaws.{IsBytes}
use Rattle.rpki_der.proofs.HeaderReadingLaws.{header-accepts}
use Rattle.rpki_der.proofs.ValuesLaws.{is-value}
use Rattle.rpki_parse.specs.Words.{parsed, bind, kinds}
use Rattle.rpki_parse.specs.Value.{value_at, has_header}
use Rattle.rpki_parse.specs.Leaf.{leaf_at, decided}
use Rattle.rpki_parse.proofs.ValueLaws.{named-by, value-read}
use Rattle.rpki_parse.proofs.LeafLaws.{Decides, contents-bytes}

bind-ok : {A B E : Type 0} (x : Result A E) (K : A → Result B E) (y : B) → bind x K ≡ Ok y
    → (z : A) × (x ≡ Ok z) × (K z ≡ Ok y)
bind-ok (Ok z) K y e = (z, refl, e)
bind-ok (Err n) K y e = absurd cc

kinds-ok : {A : Type 0} (x : Result A DecodeError) (z : A) → kinds x ≡ Ok z → x ≡ Ok z
kinds-ok (Ok y) z e = let same : y ≡ z = cc in ap (λ (w : _). Ok w) same
kinds-ok (Err d) z e = absurd cc

abbrev cut_by : Header × List ℕ → Bool → Bool → Result (List ℕ × List ℕ) ℕ
cut_by h a b = if a then (if b then Err 1 else Ok (take h.0.length h.1, drop h.0.length h.1)) else Err 4

abbrev cut : TagName → Bool → Header × List ℕ → Result (List ℕ × List ℕ) ℕ
cut t f h = cut_by h (has_header t f h.0) (nat_lt (length h.1) h.0.length)

pair-ok : {A B : Type 0} (x y : A) (s r : B) → ◌≡◌ {A = Result (A × B) ℕ} (Ok (x, s)) (Ok (y, r))
    → (x ≡ y) × (s ≡ r)
pair-ok {A} {B} x y s r e =
    let p : (x, s) ≡ (y, r) = cc in (ap (λ (q : A × B). q.0) p, ap (λ (q : A × B). q.1) p)

record IsCutOf (t : TagName) (f : Bool) (h : Header) (q c r : List ℕ) : Type 0 where
  named : has_header t f h ≡ true
  long : nat_lt (length q) h.length ≡ false
  contents : take h.length q ≡ c
  rest : drop h.length q ≡ r

cut-ok : (t : TagName) (f : Bool) (h : Header) (q c r : List ℕ) (a b : Bool) → has_header t f h ≡ a
    → nat_lt (length q) h.length ≡ b
    → cut_by (h, q) a b ≡ Ok (c, r)
    → IsCutOf t f h q c r
cut-ok t f h q c r true true x y e = absurd cc
cut-ok t f h q c r true false x y e =
    let p = pair-ok _ _ _ _ e in record { named = x; long = y; contents = p.0; rest = p.1 }
cut-ok t f h q c r false b x y e = absurd cc

moved : {V : Type 0} (G : V → List ℕ → Type 0) (s : List ℕ) (v w : V) (q r : List ℕ) → v ≡ w → q ≡ r → Spells G s v q
    → Spells G s w r
moved G s v w q r a b h = subst (λ (y : List ℕ). Spells G s w y) b (subst (λ (x : _). Spells G s x q) a h)

pub value-found : (t : TagName) (f : Bool) (s c r : List ℕ) → IsBytes s → value_at t f s ≡ Ok (c, r)
    → Spells (SpellsContents t f) s c r
unfolding value_at
value-found t f s c r bytes e =
    let b = bind-ok (kinds (header_at s)) (cut t f) (c, r) e in
    let h = b.0.0 in
    let q = b.0.1 in
    let k = cut-ok t f h q c r (has_header t f h) (nat_lt (length q) h.length) refl refl b.2 in
    let n = named-by t f h k.named in
    let a = header-accepts s h q bytes (kinds-ok (header_at s) b.0 b.1) in
    moved (SpellsContents t f) s _ c _ r k.contents k.rest
    (is-value t f s h q a n.0 n.1 (ltb-false (length q) h.length k.long)).spells

decided-ok : {V : Type 0} (x : Option V) (v : V) (q r : List ℕ) → decided x q ≡ Ok (v, r) → (x ≡ Some v) × (q ≡ r)
decided-ok (Some w) v q r e = let p = pair-ok _ _ _ _ e in (ap (λ (y : _). Some y) p.0, p.1)
decided-ok None v q r e = absurd cc

module _ {V : Type 0} (t : TagName) (C : V → List ℕ → Type 0) (d : List ℕ → Option V) (ds : Decides C d)
    (s : List ℕ) where
  pub leaf-read : (v : V) (r : List ℕ) → Spells (SpellsLeaf t false C) s v r → leaf_at t d s ≡ Ok (v, r)
  unfolding leaf_at
  leaf-read v r h =
      let k = h.spelled in
      rw (
        value-read t false s k.contents r (record { front = h.front; parts = h.parts; spelled = k.value }),
        ds.complete v k.contents k.spelled,
      ) refl

  pub leaf-found : (v : V) (r : List ℕ) → IsBytes s → leaf_at t d s ≡ Ok (v, r) → Spells (SpellsLeaf t false C) s v r
  unfolding leaf_at
  leaf-found v r bytes e =
      let b = bind-ok (value_at t false s) (λ c. decided (d c.0) c.1) (v, r) e in
      let k = decided-ok (d b.0.0) v b.0.1 r b.2 in
      let sp = value-found t false s b.0.0 b.0.1 bytes b.1 in
      moved (SpellsLeaf t false C) s v v b.0.1 r refl k.1 (record {
        front = sp.front;
        parts = sp.parts;
        spelled = record {
          contents = b.0.0;
          value = sp.spelled;
          spelled = ds.sound v b.0.0 (contents-bytes t false s b.0.0 b.0.1 bytes sp) k.0;
        };
      })

  -- what a reader of a leaf accepts and refuses, from its equation
  pub leaf-back : {X : Type 0} (view : X → V) (r : List ℕ) (x : Result X DecodeError) → IsBytes s
      → parsed view x r ≡ leaf_at t d s
      → IfOk x (λ y. Accepts (SpellsLeaf t false C) s (view y) r) × IfErr x (λ e. Refuses (SpellsLeaf t false C) s)
  leaf-back view r (Ok y) bytes e = (
    record {
      spells = leaf-found (view y) r bytes (sym e);
      only = λ w q h. pair-ok _ _ _ _ (sym (leaf-read w q h) ∙ sym e);
    },
    tt,
  )
  leaf-back view r (Err n) bytes e = (tt, λ v q h. let k = e ∙ leaf-read v q h in absurd cc)
