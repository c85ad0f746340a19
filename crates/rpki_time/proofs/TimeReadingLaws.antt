-- A time in a primitive value.
use Rattle.std.proofs.Common.{◌≡◌, ◌≢◌, ℕ, Bool, true, false, List, inl, inr, refl, sym, ap, subst, ◌∙◌, arith}
use Rattle.std.specs.Prelude.{codes}
use Rattle.jiff.specs.Types.{DateTime}
use Rattle.rpki_der.specs.declared.error.ContentError.{ContentError}
use Rattle.rpki_der.specs.declared.error.DecodeError.{DecodeError}
use Rattle.rpki_der.specs.declared.error.DecodeError.TheVariants.{Truncated, BadTag, BadLength, Unexpected, Content}
use Rattle.rpki_der.specs.declared.error.DecodeError.TheVariants.{Trailing, OutOfMemory}
use Rattle.rpki_der.specs.Prelude.{text_of, TagName, Spells, Accepts, Refusal, SpellsWanted, IsWantedFault}
use Rattle.rpki_der.specs.Prelude.{IsPrimitive}
use Rattle.rpki_der.proofs.ReadingLaws.{Refusal-weaker}
use Rattle.rpki_time.specs.TimeValue.{ReadsAs, SpellsTime, IsTimeFault}
use Rattle.rpki_time.proofs.TextLaws.{utc-unique, generalized-unique}

-- a text under a tag reads as at most one time
pub one-time : (tag : TagName) (c : List ℕ) (t u : DateTime) → ReadsAs tag c t → ReadsAs tag c u → u ≡ t
one-time tag c t u (inl h) (inl k) = utc-unique c u t k.1 h.1
one-time tag c t u (inr h) (inr k) = generalized-unique c u t k.1 h.1
one-time tag c t u (inl h) (inr k) =
    absurd (let e : 23 ≡ 24 = ap (λ (x : TagName). x.number) (sym h.0 ∙ k.0) in omega arith)
one-time tag c t u (inr h) (inl k) =
    absurd (let e : 24 ≡ 23 = ap (λ (x : TagName). x.number) (sym h.0 ∙ k.0) in omega arith)

abbrev flat : TagName → Bool → List ℕ → TagName × Bool × List ℕ
flat t f c = (t, f, c)

pub not-both : (b : Bool) → b ≡ true → b ≡ false → ⊥
not-both true h k = cc
not-both false h k = cc

-- ---- times

-- a time is a primitive value
primitive-of : (s : List ℕ) (t : DateTime) (r : List ℕ) → (k : Spells SpellsTime s t r)
    → Spells (SpellsWanted IsPrimitive) s (flat k.spelled.tag false k.spelled.text) r
primitive-of s t r k =
    record { front = k.front; parts = k.parts; spelled = record { wanted = refl; value = k.spelled.value } }

primitive-fault : (s : List ℕ) (e : DecodeError) → IsWantedFault IsPrimitive s e → IsTimeFault s e
primitive-fault s Truncated h = h
primitive-fault s BadTag h = h
primitive-fault s BadLength h = h
primitive-fault s Unexpected h = h
primitive-fault s (Content x) h = absurd h
primitive-fault s Trailing h = h
primitive-fault s OutOfMemory h = h

-- a reader of a time allocates nothing
pub time-exactly : (s : List ℕ) (e : DecodeError) → IsTimeFault s e → e ≢ OutOfMemory
time-exactly s e h z = subst (IsTimeFault s) z h

-- there is no primitive value
pub primitive-refused : (s q : List ℕ) (e : DecodeError)
    → Refusal (SpellsWanted IsPrimitive) (IsWantedFault IsPrimitive) s q e → Refusal SpellsTime IsTimeFault s s e
primitive-refused s q e h =
    let k = Refusal-weaker {H = SpellsTime} {L = IsTimeFault} (λ none t r k. none _ r (primitive-of s t r k))
    (primitive-fault s e) h in
    record { unchanged = refl; refuses = k.refuses; kind = k.kind }

-- what a time that begins the octets is, where a primitive value was found
pub moved : (s : List ℕ) (tag : TagName) (c r : List ℕ) (u : DateTime) (q : List ℕ)
    → Accepts (SpellsWanted IsPrimitive) s (flat tag false c) r → Spells SpellsTime s u q → ReadsAs tag c u × (q ≡ r)
moved s tag c r u q a k =
    let e = a.only (flat k.spelled.tag false k.spelled.text) q (primitive-of s u q k) in
    let same_tag : k.spelled.tag ≡ tag = ap (λ (x : TagName × Bool × List ℕ). x.0) e.0 in
    let same_text : k.spelled.text ≡ c = ap (λ (x : TagName × Bool × List ℕ). x.2) e.0 in (
      subst (λ (x : TagName). ReadsAs x c u) same_tag
          (subst (λ (x : List ℕ). ReadsAs k.spelled.tag x u) same_text k.spelled.reads),
      e.1,
    )

-- its text reads as a time
pub time-accepted : (s : List ℕ) (tag : TagName) (c r : List ℕ) (t : DateTime)
    → Accepts (SpellsWanted IsPrimitive) s (flat tag false c) r → ReadsAs tag c t → Accepts SpellsTime s t r
time-accepted s tag c r t a h = record {
  spells = record {
    front = a.spells.front;
    parts = a.spells.parts;
    spelled = record
        { tag = tag; text = c; value = a.spells.spelled.value; reads = h };
  };
  only = λ u q k. let m = moved s tag c r u q a k in (one-time tag c t u h m.0, m.1);
}

-- its text reads as no time
pub time-malformed : (s : List ℕ) (tag : TagName) (c r : List ℕ) (x : ContentError)
    → Accepts (SpellsWanted IsPrimitive) s (flat tag false c) r → ((t : DateTime) → ReadsAs tag c t → ⊥)
    → text_of x ≡ codes "malformed time value" → Refusal SpellsTime IsTimeFault s s (Content x)
time-malformed s tag c r x a none text = record {
  unchanged = refl;
  refuses = λ u q k. none u (moved s tag c r u q a k).0;
  kind = (text, (flat tag false c, r, a.spells, none));
}
