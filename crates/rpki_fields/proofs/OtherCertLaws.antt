-- Certificates of any algorithms, as they are read.
use Rattle.std.proofs.Common.{◌≡◌, ◌≢◌, ℕ, false, List, [], refl, ap, subst, arith, length}
use Rattle.std.specs.Prelude.{Option, Some, None, Ok, Err}
use Rattle.rpki_der.specs.declared.error.DecodeError.{DecodeError}
use Rattle.rpki_der.specs.Prelude.{TagName, Format, TakesAll, TakesWhere, HasTag, Spells, SpellsValue, SpellsNothing}
use Rattle.rpki_der.specs.Prelude.{Accepts, Refusal, kept, octets_under, optional_then, only, end}
use Rattle.rpki_der.proofs.FormatLaws.{Fails, Gives, Apart, last, all}
use Rattle.rpki_der.proofs.ReadingLaws.{UnlessMemory-weaker}
use Rattle.rpki_der.proofs.HeaderReadingLaws.{tag-empty}
use Rattle.rpki_der.proofs.FrontLaws.{one-tag}
use Rattle.rpki_der.proofs.LeavesLaws.{leaf-tag}
use Rattle.rpki_der.proofs.MembersLaws.{value-some}
use Rattle.rpki_fields.specs.OtherCert.{PerhapsSpells, if_any, unique_id}

-- ---- what fills the rest, or nothing

module _ {V : Type 0} (F : Format V) {s : List ℕ} where
  pub none-left : ((v : V) → F.spells v [] → ⊥) → s ≡ [] → Gives (if_any F).spells (if_any F).fault s s None
  none-left nowhere e = record { all = λ z. (e, only); more = λ some. absurd (some e) } where
    only : (w : Option V) → PerhapsSpells F.spells w s → w ≡ None
    only None h = refl
    only (Some v) h = absurd (nowhere v (subst (F.spells v) e h))

  one-left : {v : V} → s ≢ [] → ((w : V) → F.spells w s → w ≡ v) → (w : Option V) → PerhapsSpells F.spells w s
      → w ≡ Some v
  one-left some one None h = absurd (some h)
  one-left some one (Some w) h = ap Some (one w h)

  nothing-left : s ≢ [] → SpellsNothing F.spells s → SpellsNothing (PerhapsSpells F.spells) s
  nothing-left some none None h = some h
  nothing-left some none (Some w) h = none w h

  pub some-left : {r : List ℕ} {v : V} → s ≢ [] → Accepts F.spells s v r
      → Gives (if_any F).spells (if_any F).fault s r (Some v)
  some-left {r} {v} some a =
      let g : Gives (only F).spells (only F).fault s r v = all a in
      record {
        all = λ z. let k = g.all z in (k.0, one-left some k.1);
        more = λ z. let k = g.more z in (nothing-left some k.0, (some, k.1));
      }

  pub bad-left : {r : List ℕ} {e : DecodeError} → s ≢ [] → Refusal F.spells F.fault s r e
      → Fails (if_any F).spells (if_any F).fault s e
  bad-left {r} {e} some h =
      let k : Fails (only F).spells (only F).fault s e = last h in
      record { nothing = UnlessMemory-weaker e (nothing-left some) k.nothing; kind = (some, k.kind) }

-- a value has octets
pub octets-some : (v : List ℕ) → SpellsValue v [] → ⊥
octets-some v h = omega (arith, value-some h.value, ap length h.same)

-- ---- a reader of the whole rest, as the last of the parts

pub rest-bad : {X V : Type 0} (view : X → V) (P : Format V) {s : List ℕ} (r : List ℕ) {e : DecodeError}
    → TakesAll view P s r (Err e) → Fails P.spells P.fault s e
rest-bad view P r h = record { nothing = h.0; kind = h.1 }

pub rest-read : {X V : Type 0} (view : X → V) (P : Format V) {s r : List ℕ} {x : X} → TakesAll view P s r (Ok x)
    → Gives P.spells P.fault s r (view x)
rest-read view P h = record { all = h.0; more = h.1 }

-- nothing more is looked for
pub ended : {s : List ℕ} → Gives end.spells end.fault s s tt
ended = record { all = λ z. (z, λ w h. refl); more = λ some. (λ w h. some h, (some, refl)) }

-- ---- parts that may be left out

-- nothing begins with a tag
pub end-apart : {A : Type 0} (t : TagName) (F : Format A)
    → ((s : List ℕ) (a : A) (r : List ℕ) → Spells F.spells s a r → HasTag t s) → Apart t F end
end-apart t F begins = record {
  begins = begins;
  apart = λ b s h there. tag-empty t (subst (λ (q : List ℕ). HasTag t q) h there);
}

-- one of another tag, and what follows it
pub optional-apart : {A B C : Type 0} (t u : TagName) (F : Format A) (G : Format B) (P : Format C) → (t ≡ u → ⊥)
    → ((s : List ℕ) (a : A) (r : List ℕ) → Spells F.spells s a r → HasTag t s)
    → ((s : List ℕ) (b : B) (r : List ℕ) → Spells G.spells s b r → HasTag u s)
    → ((c : C) (s : List ℕ) → P.spells c s → HasTag t s → ⊥) → Apart t F (optional_then u G P)
optional-apart {A} {B} {C} t u F G P other begins others rest = record { begins = begins; apart = apart } where
  apart : (x : Option B × C) (s : List ℕ) → (optional_then u G P).spells x s → HasTag t s → ⊥
  apart (None, c) s h there = rest c s h there
  apart (Some b, c) s h there = other (one-tag s t u there
      (others s b h.second (record { front = h.first; parts = h.parts; spelled = h.one })))

-- contents under a tag begin with it
pub octets-begin : (t : TagName) (s v r : List ℕ) → Spells (kept (octets_under t)).spells s v r → HasTag t s
octets-begin t s v r h = leaf-tag t false (λ (w : List ℕ) (c : List ℕ). w ≡ c) s v r
    (record { front = h.front; parts = h.parts; spelled = record { contents = v; value = h.spelled; spelled = refl } })

-- a tag that is the same
pub same-tag : (t u : TagName) (s r : List ℕ) (x : Option (List ℕ)) → t ≡ u
    → TakesWhere t (λ (b : List ℕ). b) (unique_id t) s r (Ok x)
    → TakesWhere u (λ (b : List ℕ). b) (unique_id u) s r (Ok x)
same-tag t u s r x e h =
    subst (λ (w : TagName). TakesWhere w (λ (b : List ℕ). b) (unique_id w) s r (Ok x)) e h
