-- What remains to be done in the middle of a value, and where its fault is.
use Rattle.std.proofs.Common.{◌≡◌, ℕ, ◌+◌, ◌-◌, ◌≤◌, true, false, not, List, [], ◌∷◌, ◌++◌, length, take, drop}
use Rattle.std.proofs.Common.{reverse, refl, sym, ap, ◌∙◌, subst, arith, append_assoc, length-append}
use Rattle.std.specs.List.{between}
use Rattle.std.proofs.lemmas.List.{reverse-append}
use Rattle.rpki_der.specs.declared.error.DecodeError.{DecodeError}
use Rattle.rpki_der.specs.declared.tag.Header.{Header}
use Rattle.rpki_der.specs.TagName.{TagName}
use Rattle.rpki_der.specs.Header.{tlv}
use Rattle.rpki_der.specs.Reading.{Spells}
use Rattle.rpki_der.specs.Values.{SpellsHeader}
use Rattle.rpki_der.specs.Members.{Members, Empty, Primitive, Constructed, spell, HaveHeaders, IsValue}
use Rattle.rpki_der.proofs.MembersLaws.{header, HasHeader}
use Rattle.rpki_der.proofs.WalkingLaws as Walking
use Rattle.rpki_der.proofs.WalkingLaws.{BeginsWithHeader, AreMembers, begins-with, length-part, front-at, first-value}
use Rattle.rpki_der.proofs.WalkingLaws.{at-true, at-false}
use Rattle.rpki_der.specs.NestedFault.{IsNestedFault, AtHeader as NestedHeader, AtContents as NestedContents}
use Rattle.rpki_der.specs.NestedFault.{Inside as NestedInside}
use Rattle.rpki_c.specs.Front.{IsFaultAt, AtHeader, AtContents, Inside}

-- values, and then what has this fault at this place
pub record IsBrokenAt (octets : List ℕ) (e : DecodeError) (m : ℕ) : Type 0 where
  pub members : Members
  pub legal : HaveHeaders members
  pub rest : List ℕ
  pub is : octets ≡ spell members ++ rest
  pub place : ℕ
  pub fault : IsFaultAt rest e place
  pub at_place : m ≡ length (spell members) + place

-- The rest of the innermost open value, and what it will do to the values around it.
pub record Level (s : List ℕ) (place end : ℕ) (Then : Type 0) : Type 0 where
  pub low : place ≤ end
  pub high : end ≤ length s
  pub broken : (e : DecodeError) (m : ℕ) → IsBrokenAt (between place end s) e m → IsFaultAt s e (place + m)
  pub whole : (vs : Members) → AreMembers (between place end s) vs → Then

-- The octets of s up to a place are the front of one value: the ends of the values that are still open, innermost
-- first.
abbrev pub Open : List ℕ → List ℕ → ℕ → Type 0
Open s [] place = IsValue (take place s)
Open s (end ∷ ends) place = Level s place end (Open s ends end)

-- a fault in the contents of the value at the front
inside-at : (b c after : List ℕ) (t : TagName) (k : ℕ) (e : DecodeError) (m : ℕ) → b ≡ tlv t true c ++ after
    → HasHeader t (length c) → k ≡ length (header t true (length c)) → IsBrokenAt c e m → IsFaultAt b e (k + m)
inside-at b c after t k e m is legal size x =
    let inner : List ℕ = spell x.members ++ x.rest in
    let head : List ℕ = header t true (length inner) in
    let legal' : HasHeader t (length inner) = subst (λ (l : List ℕ). HasHeader t (length l)) x.is legal in
    let parts : tlv t true inner ≡ (head ++ spell x.members) ++ x.rest =
    sym (append_assoc head (spell x.members) x.rest) in
    let sum : length (head ++ spell x.members) + x.place ≡ k + m =
    omega (
      arith,
      length-append head (spell x.members),
      size,
      ap (λ (l : List ℕ). length (header t true (length l))) x.is,
      x.at_place,
    ) in
    subst (λ (n : ℕ). IsFaultAt b e n) sum (Inside t x.members (head ++ spell x.members) x.rest after legal'.0 legal'.1
    x.legal parts (is ∙ ap (λ (l : List ℕ). tlv t true l ++ after) x.is) x.fault)

-- a constructed value is opened
pub open-first : (s : List ℕ) (t : TagName) (n k : ℕ) → BeginsWithHeader s t true n k → k + n ≤ length s
    → Open s ((k + n) ∷ []) k
open-first s t n k h fits =
    let p = first-value s t true n k h fits in
    let c : List ℕ = between k (k + n) s in
    let width : n ≡ length c = omega (arith, length-part s k (k + n) (omega arith) fits) in
    let size : k ≡ length (header t true (length c)) = h.size ∙ ap (λ (x : ℕ). length (header t true x)) width in
    record {
      low = omega arith;
      high = fits;
      broken = λ e m b. inside-at s c (drop (k + n) s) t k e m p.is p.legal size b;
      whole = λ vs st. ((Walking.open-first s t n k h fits).whole vs st).0;
    }

-- the innermost value ends
pub open-end : (s ends : List ℕ) (place : ℕ) → Open s (place ∷ ends) place → Open s ends place
open-end s ends place o =
    let empty : place - place ≡ 0 = omega arith in
    let none : between place place s ≡ [] = ap (λ (x : ℕ). take x (drop place s)) empty in
    o.whole Empty (record { legal = tt; is = none })

-- one more value has been read
level-read : (s : List ℕ) (place place' e : ℕ) (Then : Type 0) (x : List ℕ) (one : Members → Members) → place' ≤ e
    → place' ≡ place + length x → between place e s ≡ x ++ between place' e s
    → ((ws : Members) → HaveHeaders ws → HaveHeaders (one ws)) → ((ws : Members) → spell (one ws) ≡ x ++ spell ws)
    → Level s place e Then → Level s place' e Then
level-read s place place' e Then x one low size parts legal spelled o = record {
  low = low;
  high = o.high;
  broken = λ f m b.
      let r : IsFaultAt s f (place + (length x + m)) = o.broken f (length x + m) (record {
        members = one b.members;
        legal = legal b.members b.legal;
        rest = b.rest;
        is = parts ∙ ap (λ (y : List ℕ). x ++ y) b.is ∙ sym (append_assoc x (spell b.members) b.rest)
            ∙ ap (λ (y : List ℕ). y ++ b.rest) (sym (spelled b.members));
        place = b.place;
        fault = b.fault;
        at_place = omega (arith, ap length (spelled b.members), length-append x (spell b.members), b.at_place);
      }) in
      let sum : place + (length x + m) ≡ place' + m = omega (arith, size) in
      subst (λ (y : ℕ). IsFaultAt s f y) sum r;
  whole = λ vs st. o.whole (one vs) (record {
    legal = legal vs st.legal;
    is = parts ∙ ap (λ (y : List ℕ). x ++ y) st.is ∙ sym (spelled vs);
  });
}

-- a primitive value inside
pub open-primitive : (s ends : List ℕ) (e place : ℕ) (t : TagName) (n k : ℕ) → Open s (e ∷ ends) place
    → BeginsWithHeader (between place e s) t false n k → k + n ≤ length (between place e s)
    → Open s (e ∷ ends) (place + k + n)
open-primitive s ends e place t n k o h fits =
    let p = front-at s place e t false n k o.low o.high h fits in
    let c : List ℕ = between (place + k) (place + k + n) s in
    let size : place + k + n ≡ place + length (tlv t false c) =
    omega (arith, length-append (header t false (length c)) c, p.header_size, p.contents_size) in
    level-read s place (place + k + n) e (Open s ends e) (tlv t false c) (λ ws. Primitive t c ws) p.fits size p.is
    (λ ws l. (p.legal, l)) (λ ws. refl) o

-- a constructed value inside is opened
pub open-constructed : (s ends : List ℕ) (e place : ℕ) (t : TagName) (n k : ℕ) → Open s (e ∷ ends) place
    → BeginsWithHeader (between place e s) t true n k → k + n ≤ length (between place e s)
    → Open s ((place + k + n) ∷ e ∷ ends) (place + k)
open-constructed s ends e place t n k o h fits =
    let p = front-at s place e t true n k o.low o.high h fits in
    let c : List ℕ = between (place + k) (place + k + n) s in
    let after : List ℕ = between (place + k + n) e s in
    record {
      low = omega arith;
      high = omega (arith, p.fits, o.high);
      broken = λ f m b.
          let r : IsFaultAt s f (place + (k + m)) = o.broken f (k + m) (record {
            members = Empty;
            legal = tt;
            rest = between place e s;
            is = refl;
            place = k + m;
            fault = inside-at (between place e s) c after t k f m p.is p.legal p.header_size b;
            at_place = omega arith;
          }) in
          let sum : place + (k + m) ≡ place + k + m = omega arith in
          subst (λ (y : ℕ). IsFaultAt s f y) sum r;
      whole = λ vs st.
          let parts : between place e s ≡ tlv t true (spell vs) ++ after =
          p.is ∙ ap (λ (x : List ℕ). tlv t true x ++ after) st.is in
          let legal : HasHeader t (length (spell vs)) = subst (λ (x : List ℕ). HasHeader t (length x)) st.is p.legal in
          let size : place + k + n ≡ place + length (tlv t true (spell vs)) =
          omega (
            arith,
            length-append (header t true (length (spell vs))) (spell vs),
            p.header_size,
            p.contents_size,
            ap length st.is,
            ap (λ (x : List ℕ). length (header t true (length x))) st.is,
          ) in
          level-read s place (place + k + n) e (Open s ends e) (tlv t true (spell vs)) (λ ws. Constructed t vs ws)
          p.fits size parts (λ ws l. (legal, st.legal, l)) (λ ws. refl) o;
    }

-- a fault where a value has to begin
pub open-fault : (s ends : List ℕ) (e place : ℕ) (f : DecodeError) → Open s (e ∷ ends) place
    → IsFaultAt (between place e s) f 0 → IsFaultAt s f place
open-fault s ends e place f o h =
    let r : IsFaultAt s f (place + 0) = o.broken f 0
    (record {
      members = Empty;
      legal = tt;
      rest = between place e s;
      is = refl;
      place = 0;
      fault = h;
      at_place =
          refl;
    }) in
    let sum : place + 0 ≡ place = omega arith in
    subst (λ (y : ℕ). IsFaultAt s f y) sum r

-- the octets up to a place, where the ends of the values around the innermost open one are on a stack, innermost last
pub record IsOpen (s around : List ℕ) (end place : ℕ) : Type 0 where
  pub opened : Open s (end ∷ reverse around) place

pub start-primitive : {s : List ℕ} {h : Header} (k : ℕ) → not h.constructed ≡ true
    → Spells SpellsHeader s h (drop k s) → k + h.length ≤ length s → (m : ℕ) × IsValue (take m s)
start-primitive {s} {h} k form sp fits =
    (k + h.length, (Walking.start-primitive 1 form (begins-with k sp fits) fits refl).0)

pub start-constructed : {s around : List ℕ} {h : Header} (k : ℕ) → not h.constructed ≡ false
    → Spells SpellsHeader s h (drop k s) → k + h.length ≤ length s → around ≡ [] → IsOpen s around (k + h.length) k
start-constructed {s} {around} {h} k form sp fits none = record {
  opened = subst (λ (x : List ℕ). Open s ((k + h.length) ∷ reverse x) k) (sym none)
      (open-first s h.tag h.length k (at-true s h.tag _ h.length k form (begins-with k sp fits)) fits);
}

-- the innermost value ends, and there is one around it, or none
pub step-end : {s around after : List ℕ} {end place outer : ℕ} → IsOpen s around end place → place ≡ end
    → around ≡ after ++ outer ∷ [] → IsOpen s after outer place
step-end {s} {around} {after} {end} {place} {outer} o same is = record {
  opened = subst (λ (x : List ℕ). Open s x place) (ap reverse is ∙ reverse-append after (outer ∷ []))
      (open-end s (reverse around) place (subst (λ (x : ℕ). Open s (x ∷ reverse around) place) (sym same) o.opened));
}

pub step-last : {s around : List ℕ} {end place : ℕ} → IsOpen s around end place → place ≡ end → length around ≡ 0
    → (m : ℕ) × IsValue (take m s)
step-last {s} {around} {end} {place} o same none = go around none o.opened
  where
    go : (xs : List ℕ) → length xs ≡ 0 → Open s (end ∷ reverse xs) place → (m : ℕ) × IsValue (take m s)
    go [] z k = (place, open-end s [] place (subst (λ (x : ℕ). Open s (x ∷ []) place) (sym same) k))
    go (x ∷ xs) z k = absurd (omega (arith, z))

-- a header is there with its contents
pub record IsStep (s around : List ℕ) (end place : ℕ) (h : Header) (k : ℕ) : Type 0 where
  pub fits : place + k + h.length ≤ end
  pub high : end ≤ length s
  pub some : 2 ≤ k
  pub primitive : not h.constructed ≡ true → IsOpen s around end (place + k + h.length)
  pub constructed : (after : List ℕ) → not h.constructed ≡ false → after ≡ around ++ end ∷ []
      → IsOpen s after (place + k + h.length) (place + k)

pub step : {s around : List ℕ} {end place : ℕ} {h : Header} (k : ℕ) → IsOpen s around end place
    → Spells SpellsHeader (between place end s) h (drop k (between place end s))
    → k + h.length ≤ length (between place end s) → IsStep s around end place h k
step {s} {around} {end} {place} {h} k o sp fits =
    let b : List ℕ = between place end s in
    let front = begins-with k sp fits in
    let p = front-at s place end h.tag h.constructed h.length k o.opened.low o.opened.high front fits in
    record {
      fits = p.fits;
      high = o.opened.high;
      some = p.size;
      primitive = λ form. record {
        opened = open-primitive s (reverse around) end place h.tag h.length k o.opened
            (at-false b h.tag h.constructed h.length k form front) fits;
      };
      constructed = λ after form is. record {
        opened = subst (λ (x : List ℕ). Open s ((place + k + h.length) ∷ x) (place + k))
            (sym (ap reverse is ∙ reverse-append around (end ∷ [])))
            (open-constructed s (reverse around) end place h.tag h.length k o.opened
            (at-true b h.tag h.constructed h.length k form front) fits);
      };
    }

pub step-fault : {s around : List ℕ} {end place : ℕ} → IsOpen s around end place
    → (e : DecodeError) × IsFaultAt (between place end s) e 0 → (e : DecodeError) × IsFaultAt s e place
step-fault {s} {around} {end} {place} o x = (x.0, open-fault s (reverse around) end place x.0 o.opened x.1)

-- the fault is that of a walk
pub nested : {s : List ℕ} {e : DecodeError} {n : ℕ} → IsFaultAt s e n → IsNestedFault s e
nested (AtHeader some h) = NestedHeader some h
nested (AtContents h r spells long) = NestedContents h r spells long
nested (Inside t ms front r after tag fits legal parts is fault) =
    NestedInside t ms r after tag fits legal is (nested fault)
