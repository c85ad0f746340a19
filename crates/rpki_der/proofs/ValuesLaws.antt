-- Values by their headers.
use Rattle.std.proofs.Common.{◌≡◌, ℕ, ◌+◌, ◌-◌, ◌<◌, ◌≤◌, Bool, List, ◌∷◌, ◌++◌, length, take, drop, refl, sym, ap, ◌∙◌}
use Rattle.std.proofs.Common.{arith, append_assoc, length-append}
use Rattle.std.specs.Prelude.{replicate}
use Rattle.std.proofs.lemmas.List.{take-append-drop, length-take-le, length-replicate, take_at, drop_at}
use Rattle.rpki_der.specs.declared.tag.Header.{Header}
use Rattle.rpki_der.specs.TagName.{TagName}
use Rattle.rpki_der.specs.Header.{header_octets, tlv}
use Rattle.rpki_der.specs.Reading.{Spells, Accepts, Refuses, IsCut}
use Rattle.rpki_der.specs.Values.{SpellsHeader, SpellsContents}

abbrev head-of : TagName → Bool → ℕ → Header
head-of t f n = record { tag = t; constructed = f; length = n }

-- a value begins with its header
pub value-header : (t : TagName) (f : Bool) (s c r : List ℕ) → Spells (SpellsContents t f) s c r
    → Spells SpellsHeader s (head-of t f (length c)) (c ++ r)
value-header t f s c r v = record {
  front = header_octets (head-of t f (length c));
  parts = v.parts ∙ ap (λ (p : List ℕ). p ++ r) v.spelled.octets ∙ append_assoc (header_octets (head-of t f (length c)))
      c r;
  spelled = record { legal = record { tag = v.spelled.tag; length = v.spelled.fits }; octets = refl };
}

pub no-header : (t : TagName) (f : Bool) (s : List ℕ) → Refuses SpellsHeader s → Refuses (SpellsContents t f) s
no-header t f s none c r v = none (head-of t f (length c)) (c ++ r) (value-header t f s c r v)

-- what a value's header says, where one was read
pub record Told (t : TagName) (f : Bool) (h : Header) (c q r : List ℕ) : Type 0 where
  pub tag : h.tag ≡ t
  pub form : h.constructed ≡ f
  pub size : h.length ≡ length c
  pub rest : q ≡ c ++ r

pub told : (t : TagName) (f : Bool) (s : List ℕ) (h : Header) (q c r : List ℕ) → Accepts SpellsHeader s h q
    → Spells (SpellsContents t f) s c r → Told t f h c q r
told t f s h q c r a v =
    let e = a.only (head-of t f (length c)) (c ++ r) (value-header t f s c r v) in
    record {
      tag = sym (ap (λ (x : Header). x.tag) e.0);
      form = sym (ap (λ (x : Header). x.constructed) e.0);
      size = sym (ap (λ (x : Header). x.length) e.0);
      rest = sym e.1;
    }

pub other-tag : (t : TagName) (f : Bool) (s : List ℕ) (h : Header) (q : List ℕ) → Accepts SpellsHeader s h q
    → ((h.tag ≡ t) × (h.constructed ≡ f) → ⊥) → Refuses (SpellsContents t f) s
other-tag t f s h q a ne c r v = let d = told t f s h q c r a v in ne (d.tag, d.form)

pub too-long : (t : TagName) (f : Bool) (s : List ℕ) (h : Header) (q : List ℕ) → Accepts SpellsHeader s h q
    → length q < h.length → Refuses (SpellsContents t f) s
too-long t f s h q a lt c r v =
    let d = told t f s h q c r a v in
    let size = d.size in
    let parts = ap length d.rest ∙ length-append c r in
    omega arith

-- with zeros after it would be a value
pub cut-value : (t : TagName) (f : Bool) (s : List ℕ) (h : Header) (q : List ℕ) → Spells SpellsHeader s h q → h.tag ≡ t
    → h.constructed ≡ f → length q < h.length → IsCut (SpellsContents t f) s
cut-value t f s h q a tag form lt =
    let k = h.length - (length q + 1) in
    let c = q ++ 0 ∷ replicate k 0 in
    let size : length c ≡ h.length = omega (arith, length-append q (0 ∷ replicate k 0), length-replicate {A = ℕ} k 0) in
    let legal = a.spelled.legal in
    let octets : s ++ 0 ∷ replicate k 0 ≡ tlv t f c =
    rw (size, ← tag, ← form, a.parts, a.spelled.octets) (append_assoc (header_octets h) q (0 ∷ replicate k 0)) in
    (c, 0, replicate k 0, record { tag = rw (← tag) legal.tag; fits = rw size legal.length; octets = octets })

-- the contents that the header announces
pub is-value : (t : TagName) (f : Bool) (s : List ℕ) (h : Header) (q : List ℕ) → Accepts SpellsHeader s h q → h.tag ≡ t
    → h.constructed ≡ f → h.length ≤ length q → Accepts (SpellsContents t f) s (take h.length q) (drop h.length q)
is-value t f s h q a tag form le =
    let n = h.length in
    let size : length (take n q) ≡ n = length-take-le n q le in
    let legal = a.spells.spelled.legal in
    let front = header_octets h ++ take n q in
    let parts : s ≡ front ++ drop n q =
    a.spells.parts ∙ ap (λ (x : List ℕ). x ++ q) a.spells.spelled.octets ∙ ap (λ (x : List ℕ). header_octets h ++ x)
    (sym (take-append-drop n q)) ∙ sym (append_assoc (header_octets h) (take n q) (drop n q)) in
    let octets : front ≡ tlv t f (take n q) = rw (size, ← tag, ← form) refl in
    record {
      spells = record {
        front = front;
        parts = parts;
        spelled = record
            { tag = rw (← tag) legal.tag; fits = rw size legal.length; octets = octets };
      };
      only = λ c r v.
          let d = told t f s h q c r a v in (
            rw (d.size, d.rest) (sym (take_at c r (length c) refl)),
            rw (d.size, d.rest)
                (sym (drop_at c r (length c) refl)),
          );
    }
