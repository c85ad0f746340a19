-- Values of a wanted tag and form.
use Rattle.std.proofs.Common.{◌≡◌, ℕ, ◌<◌, ◌≤◌, Bool, List, length, take, drop, ◌++◌, ◌∷◌, refl, sym, subst, inl, inr}
use Rattle.rpki_der.specs.declared.error.DecodeError.{DecodeError}
use Rattle.rpki_der.specs.declared.error.DecodeError.TheVariants.{Truncated, BadTag, BadLength, Unexpected, Content}
use Rattle.rpki_der.specs.declared.error.DecodeError.TheVariants.{Trailing, OutOfMemory}
use Rattle.rpki_der.specs.declared.tag.Header.{Header}
use Rattle.rpki_der.specs.TagName.{TagName}
use Rattle.rpki_der.specs.Reading.{Spells, Accepts, Refuses, IsCut, Refusal}
use Rattle.rpki_der.specs.Values.{SpellsHeader, SpellsContents, IsHeaderFault, IsContentsFault}
use Rattle.rpki_der.specs.WantedValue.{SpellsWanted, IsWantedFault, IsFormed}
use Rattle.rpki_der.proofs.ReadingLaws.{Refusal-weaker}
use Rattle.rpki_der.proofs.ValuesLaws.{no-header, told, too-long, cut-value, is-value}

abbrev flat : TagName → Bool → List ℕ → TagName × Bool × List ℕ
flat t f c = (t, f, c)

of-value : (W : TagName → Bool → Type 0) (s : List ℕ) (x : TagName × Bool × List ℕ) (r : List ℕ)
    → Spells (SpellsWanted W) s x r → Spells (SpellsContents x.0 x.1) s x.2 r
of-value W s x r v = record { front = v.front; parts = v.parts; spelled = v.spelled.value }

pub flat-none : (W : TagName → Bool → Type 0) (s : List ℕ) → Refuses SpellsHeader s → Refuses (SpellsWanted W) s
flat-none W s none x r v = no-header x.0 x.1 s none x.2 r (of-value W s x r v)

pub flat-kind : (W : TagName → Bool → Type 0) (s : List ℕ) (e : DecodeError) → IsHeaderFault s e → IsWantedFault W s e
flat-kind W s Truncated h = inl h
flat-kind W s BadTag h = h
flat-kind W s BadLength h = h
flat-kind W s Unexpected h = absurd h
flat-kind W s (Content x) h = h
flat-kind W s Trailing h = h
flat-kind W s OutOfMemory h = h

pub flat-unwanted : (W : TagName → Bool → Type 0) (s : List ℕ) (h : Header) (q : List ℕ) → Accepts SpellsHeader s h q
    → (W h.tag h.constructed → ⊥) → Refuses (SpellsWanted W) s
flat-unwanted W s h q a ne x r v =
    let d = told x.0 x.1 s h q x.2 r a (of-value W s x r v) in
    ne (subst (λ (t : TagName). W t h.constructed) (sym d.tag)
    (subst (λ (f : Bool). W x.0 f) (sym d.form) v.spelled.wanted))

pub flat-too-long : (W : TagName → Bool → Type 0) (s : List ℕ) (h : Header) (q : List ℕ) → Accepts SpellsHeader s h q
    → length q < h.length → Refuses (SpellsWanted W) s
flat-too-long W s h q a lt x r v = too-long x.0 x.1 s h q a lt x.2 r (of-value W s x r v)

pub flat-cut : (W : TagName → Bool → Type 0) (s : List ℕ) (h : Header) (q : List ℕ) → Spells SpellsHeader s h q
    → W h.tag h.constructed → length q < h.length → IsCut (SpellsWanted W) s
flat-cut W s h q a w lt =
    let c = cut-value h.tag h.constructed s h q a refl refl lt in
    (flat h.tag h.constructed c.0, c.1, c.2, record { wanted = w; value = c.3 })

same-flat : (t u : TagName) (f g : Bool) (c d : List ℕ) → t ≡ u → f ≡ g → c ≡ d → flat t f c ≡ flat u g d
same-flat t u f g c d p q r = cc

pub is-flat : (W : TagName → Bool → Type 0) (s : List ℕ) (h : Header) (q : List ℕ) → Accepts SpellsHeader s h q
    → W h.tag h.constructed → h.length ≤ length q
    → Accepts (SpellsWanted W) s (flat h.tag h.constructed (take h.length q)) (drop h.length q)
is-flat W s h q a w le =
    let v = is-value h.tag h.constructed s h q a refl refl le in
    record {
      spells = record {
        front = v.spells.front;
        parts = v.spells.parts;
        spelled = record
            { wanted = w; value = v.spells.spelled };
      };
      only = λ x r k.
          let d = told x.0 x.1 s h q x.2 r a (of-value W s x r k) in
          let moved : Spells (SpellsContents h.tag h.constructed) s x.2 r =
          subst (λ (t : TagName). Spells (SpellsContents t h.constructed) s x.2 r) (sym d.tag)
          (subst (λ (f : Bool). Spells (SpellsContents x.0 f) s x.2 r) (sym d.form) (of-value W s x r k)) in
          let e = v.only x.2 r moved in
          (same-flat x.0 h.tag x.1 h.constructed x.2 (take h.length q) (sym d.tag) (sym d.form) e.0, e.1);
    }

formed-value : (t : TagName) (f : Bool) (s : List ℕ) (x : TagName × Bool × List ℕ) (r : List ℕ)
    → Spells (SpellsWanted (IsFormed t f)) s x r → Spells (SpellsContents t f) s x.2 r
formed-value t f s x r v =
    let w = v.spelled.wanted in
    let at : Spells (SpellsContents x.0 x.1) s x.2 r = of-value (IsFormed t f) s x r v in
    subst (λ (t : TagName). Spells (SpellsContents t f) s x.2 r) w.0
    (subst (λ (f : Bool). Spells (SpellsContents x.0 f) s x.2 r) w.1 at)

value-formed : (t : TagName) (f : Bool) (s c r : List ℕ) → Spells (SpellsContents t f) s c r
    → Spells (SpellsWanted (IsFormed t f)) s (flat t f c) r
value-formed t f s c r v =
    record { front = v.front; parts = v.parts; spelled = record { wanted = (refl, refl); value = v.spelled } }

-- a value of this tag in this form that was found, by its contents
pub formed-found : (t : TagName) (f : Bool) (s : List ℕ) (x : TagName × Bool × List ℕ) (r : List ℕ)
    → Accepts (SpellsWanted (IsFormed t f)) s x r → Accepts (SpellsContents t f) s x.2 r
formed-found t f s x r a =
    record {
      spells = formed-value t f s x r a.spells;
      only = λ c q v.
          let e = a.only (flat t f c) q (value-formed t f s c q v) in
          (subst (λ (x : TagName × Bool × List ℕ). c ≡ x.2) e.0 refl, e.1);
    }

pub formed-refused : (t : TagName) (f : Bool) (s : List ℕ) → Refuses (SpellsWanted (IsFormed t f)) s
    → Refuses (SpellsContents t f) s
formed-refused t f s none c r v = none (flat t f c) r (value-formed t f s c r v)

formed-cut : (t : TagName) (f : Bool) (s : List ℕ) → IsCut (SpellsWanted (IsFormed t f)) s
    → IsCut (SpellsContents t f) s
formed-cut t f s c =
    let at : SpellsContents (c.0).0 (c.0).1 (c.0).2 (s ++ c.1 ∷ c.2) = c.3.value in (
      (c.0).2,
      c.1,
      c.2,
      subst (λ (t : TagName). SpellsContents t f (c.0).2 (s ++ c.1 ∷ c.2)) c.3.wanted.0
          (subst (λ (f : Bool). SpellsContents (c.0).0 f (c.0).2 (s ++ c.1 ∷ c.2)) c.3.wanted.1 at),
    )

pub formed-kind : (t : TagName) (f : Bool) (s : List ℕ) (e : DecodeError) → IsWantedFault (IsFormed t f) s e
    → IsContentsFault t f s e
formed-kind t f s Truncated (inl h) = inl h
formed-kind t f s Truncated (inr h) = inr (formed-cut t f s h)
formed-kind t f s BadTag h = h
formed-kind t f s BadLength h = h
formed-kind t f s Unexpected h = h
formed-kind t f s (Content x) h = h
formed-kind t f s Trailing h = h
formed-kind t f s OutOfMemory h = h

-- an error of the reader of such values
pub formed-refusal : (t : TagName) (f : Bool) (s r : List ℕ) (e : DecodeError)
    → Refusal (SpellsWanted (IsFormed t f)) (IsWantedFault (IsFormed t f)) s r e
    → Refusal (SpellsContents t f) (IsContentsFault t f) s r e
formed-refusal t f s r e = Refusal-weaker (formed-refused t f s) (formed-kind t f s e)
