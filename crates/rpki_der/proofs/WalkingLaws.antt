-- What remains to be done in the middle of a value.
use Rattle.std.proofs.Common.{◌≡◌, ℕ, ◌+◌, ◌-◌, ◌<◌, ◌≤◌, Bool, true, false, not, List, [], ◌∷◌, ◌++◌, length, take}
use Rattle.std.proofs.Common.{drop, get_or, reverse, Some, refl, sym, ap, ◌∙◌, subst, arith, append_assoc, append-nil}
use Rattle.std.proofs.Common.{length-append, length-drop, take-append-drop}
use Rattle.std.specs.List.{between}
use Rattle.std.specs.Prelude.{slice_get}
use Rattle.std.proofs.lemmas.Option.{slice_get-get_or}
use Rattle.std.proofs.lemmas.List.{drop-take, drop-drop, take-take, take_at, take_all, length-take-le, take_more}
use Rattle.std.proofs.lemmas.List.{reverse-append}
use Rattle.rpki_der.specs.declared.error.DecodeError.{DecodeError}
use Rattle.rpki_der.specs.declared.tag.Header.{Header}
use Rattle.rpki_der.specs.TagName.{TagName}
use Rattle.rpki_der.specs.Header.{tlv}
use Rattle.rpki_der.specs.Reading.{Spells}
use Rattle.rpki_der.specs.Values.{SpellsHeader}
use Rattle.rpki_der.specs.Members.{Members, Empty, Primitive, Constructed, spell, HaveHeaders, header_count, IsValueOf}
use Rattle.rpki_der.specs.NestedFault.{IsNestedFault, Inside}
use Rattle.rpki_der.specs.Walk.{HasForm, HasConstructed}
use Rattle.rpki_der.proofs.MembersLaws.{header, HasHeader, two-octets}

-- the first k octets are this header
pub record BeginsWithHeader (s : List ℕ) (t : TagName) (f : Bool) (n k : ℕ) : Type 0 where
  pub legal : HasHeader t n
  pub is : take k s ≡ header t f n
  pub size : k ≡ length (header t f n)
  pub within : k ≤ length s

pub begins-with : {s : List ℕ} {h : Header} (k : ℕ) → Spells SpellsHeader s h (drop k s) → k + h.length ≤ length s
    → BeginsWithHeader s h.tag h.constructed h.length k
begins-with {s} {h} k sp fits =
    let size : length sp.front ≡ k = omega
    (arith, ap length sp.parts, length-append sp.front (drop k s), length-drop k s) in
    let octets = sp.spelled.octets in
    record {
      legal = (sp.spelled.legal.tag, sp.spelled.legal.length);
      is = ap (λ (x : List ℕ). take k x) sp.parts ∙ take_at sp.front (drop k s) k size ∙ octets;
      size = sym size ∙ ap length octets;
      within = omega arith;
    }

-- these octets are these values
pub record AreMembers (octets : List ℕ) (vs : Members) : Type 0 where
  pub legal : HaveHeaders vs
  pub is : octets ≡ spell vs

-- values, and then what has this fault
pub record IsBroken (octets : List ℕ) (e : DecodeError) : Type 0 where
  pub members : Members
  pub legal : HaveHeaders members
  pub rest : List ℕ
  pub is : octets ≡ spell members ++ rest
  pub fault : IsNestedFault rest e

-- The rest of the innermost open value, and what it will do to the values around it.
pub record Level (s : List ℕ) (place end n : ℕ) (Then : ℕ → Type 0) : Type 0 where
  pub low : place ≤ end
  pub high : end ≤ length s
  pub broken : (e : DecodeError) → IsBroken (between place end s) e → IsNestedFault s e
  pub whole : (vs : Members) → AreMembers (between place end s) vs → Then (n + header_count vs)

-- The octets of s up to a place, with n header_count, are the front of one value: the ends of the values that are
-- still open, innermost first.
abbrev pub Open : List ℕ → List ℕ → ℕ → ℕ → Type 0
Open s [] place n = IsValueOf n (take place s)
Open s (end ∷ ends) place n = Level s place end n (λ m. Open s ends end m)

-- a value at the front of octets
pub record HasFront (octets : List ℕ) (t : TagName) (f : Bool) (contents rest : List ℕ) : Type 0 where
  pub legal : HasHeader t (length contents)
  pub is : octets ≡ tlv t f contents ++ rest

front : (b : List ℕ) (t : TagName) (f : Bool) (n k : ℕ) → BeginsWithHeader b t f n k → k + n ≤ length b
    → HasFront b t f (take n (drop k b)) (drop (k + n) b)
front b t f n k h fits =
    let size : length (take n (drop k b)) ≡ n = length-take-le n (drop k b) (omega (arith, length-drop k b)) in
    record {
      legal = subst (λ (m : ℕ). HasHeader t m) (sym size) h.legal;
      is =
          let first : b ≡ header t f n ++ drop k b = sym (take-append-drop k b) ∙ ap (λ (x : List ℕ). x ++ drop k b)
          h.is in
          let second : drop k b ≡ take n (drop k b) ++ drop (k + n) b = sym (take-append-drop n (drop k b)) ∙ ap
          (λ (x : List ℕ). take n (drop k b) ++ x) (drop-drop n k b) in
          let joined : b ≡ header t f n ++ (take n (drop k b) ++ drop (k + n) b) = first ∙ ap
          (λ (x : List ℕ). header t f n ++ x) second in
          joined ∙ sym (append_assoc (header t f n) (take n (drop k b)) (drop (k + n) b)) ∙ ap
          (λ (m : ℕ). (header t f m ++ take n (drop k b)) ++ drop (k + n) b) (sym size);
    }

-- a header that is there with its contents is that of a value
pub has-value : {s : List ℕ} {h : Header} (k : ℕ) → Spells SpellsHeader s h (drop k s) → k + h.length ≤ length s
    → HasForm h.constructed s
has-value {s} {h} k sp fits =
    let found = front s h.tag h.constructed h.length k (begins-with k sp fits) fits in (
      h.tag,
      take h.length (drop k s),
      drop (k + h.length) s,
      record {
        front = tlv h.tag h.constructed (take h.length (drop k s));
        parts = found.is;
        spelled = record { tag = found.legal.0; fits = found.legal.1; octets = refl };
      },
    )

pub has-constructed : {s : List ℕ} {h : Header} (k : ℕ) → not h.constructed ≡ false → Spells SpellsHeader s h (drop k s)
    → k + h.length ≤ length s → HasConstructed s
has-constructed {s} {h} k form sp fits =
    subst (λ (f : Bool). HasForm f s) (is_true h.constructed form) (has-value k sp fits)
  where
    is_true : (f : Bool) → not f ≡ false → f ≡ true
    is_true true e = refl
    is_true false e = sym e

-- the parts of a part
pub part-after : (s : List ℕ) (i e j : ℕ) → i + j ≤ e → drop j (between i e s) ≡ between (i + j) e s
part-after s i e j h =
    let m : e - i ≡ j + (e - (i + j)) = omega arith in
    ap (λ (x : ℕ). drop j (take x (drop i s))) m ∙ drop-take j (e - (i + j)) (drop i s) ∙ ap
    (λ (x : List ℕ). take (e - (i + j)) x) (drop-drop j i s)

part-before : (s : List ℕ) (i e n : ℕ) → i + n ≤ e → take n (between i e s) ≡ between i (i + n) s
part-before s i e n h =
    let small : n ≤ e - i = omega arith in
    let size : i + n - i ≡ n = omega arith in
    take-take n (e - i) (drop i s) small ∙ ap (λ (x : ℕ). take x (drop i s)) (sym size)

pub length-part : (s : List ℕ) (i e : ℕ) → i ≤ e → e ≤ length s → length (between i e s) ≡ e - i
length-part s i e l h = length-take-le (e - i) (drop i s) (omega (arith, length-drop i s))

-- the front of a part, with what follows it in that part
pub record HasFrontAt (s : List ℕ) (i e : ℕ) (t : TagName) (f : Bool) (k n : ℕ) : Type 0 where
  pub fits : i + k + n ≤ e
  pub header_size : k ≡ length (header t f (length (between (i + k) (i + k + n) s)))
  pub contents_size : n ≡ length (between (i + k) (i + k + n) s)
  pub size : 2 ≤ k
  pub legal : HasHeader t (length (between (i + k) (i + k + n) s))
  pub is : between i e s ≡ tlv t f (between (i + k) (i + k + n) s) ++ between (i + k + n) e s

pub front-at : (s : List ℕ) (i e : ℕ) (t : TagName) (f : Bool) (n k : ℕ) → i ≤ e → e ≤ length s
    → BeginsWithHeader (between i e s) t f n k → k + n ≤ length (between i e s)
    → HasFrontAt s i e t f k n
front-at s i e t f n k l high h fits =
    let size = length-part s i e l high in
    let small : i + k + n ≤ e = omega arith in
    let p = front (between i e s) t f n k h fits in
    let back : drop (k + n) (between i e s) ≡ between (i + k + n) e s = let sum : i + (k + n) ≡ i + k + n = omega arith
    in part-after s i e (k + n) (omega arith) ∙ ap (λ (x : ℕ). between x e s) sum in
    let mid : take n (drop k (between i e s)) ≡ between (i + k) (i + k + n) s =
    ap (λ (x : List ℕ). take n x) (part-after s i e k (omega arith)) ∙ part-before s (i + k) e n (omega arith) in
    let width : n ≡ length (between (i + k) (i + k + n) s) = omega
    (arith, length-part s (i + k) (i + k + n) (omega arith) (omega (arith, high, small))) in
    record {
      fits = small;
      header_size = h.size ∙ ap (λ (x : ℕ). length (header t f x)) width;
      contents_size = width;
      size = omega (arith, h.size, two-octets t f n);
      legal = subst (λ (x : List ℕ). HasHeader t (length x)) mid p.legal;
      is = p.is ∙ ap (λ (x : List ℕ). tlv t f x ++ drop (k + n) (between i e s)) mid ∙ ap
          (λ (x : List ℕ). tlv t f (between (i + k) (i + k + n) s) ++ x) back;
    }

-- a value at the front of all
pub record HasFirst (s : List ℕ) (t : TagName) (f : Bool) (k n : ℕ) : Type 0 where
  pub legal : HasHeader t (length (between k (k + n) s))
  pub is : s ≡ tlv t f (between k (k + n) s) ++ drop (k + n) s
  pub taken : take (k + n) s ≡ tlv t f (between k (k + n) s)

pub first-value : (s : List ℕ) (t : TagName) (f : Bool) (n k : ℕ) → BeginsWithHeader s t f n k → k + n ≤ length s
    → HasFirst s t f k n
first-value s t f n k h fits =
    let p = front s t f n k h fits in
    let c : List ℕ = between k (k + n) s in
    let width : n ≡ k + n - k = omega arith in
    let mid : take n (drop k s) ≡ c = ap (λ (x : ℕ). take x (drop k s)) width in
    let size : length c ≡ n = length-part s k (k + n) (omega arith) fits ∙ sym width in
    let is : s ≡ tlv t f c ++ drop (k + n) s = p.is ∙ ap (λ (x : List ℕ). tlv t f x ++ drop (k + n) s) mid in
    let header_size : k ≡ length (header t f (length c)) = h.size ∙ ap (λ (x : ℕ). length (header t f x)) (sym size) in
    let all : length (tlv t f c) ≡ k + n = omega (arith, length-append (header t f (length c)) c, header_size, size) in
    record {
      legal = subst (λ (x : List ℕ). HasHeader t (length x)) mid p.legal;
      is = is;
      taken = ap (λ (x : List ℕ). take (k + n) x) is ∙ take_at (tlv t f c) (drop (k + n) s) (k + n) all;
    }

-- a primitive value is read
pub value-primitive : (s : List ℕ) (t : TagName) (n k : ℕ) → BeginsWithHeader s t false n k → k + n ≤ length s
    → IsValueOf 1 (take (k + n) s)
value-primitive s t n k h fits =
    let p = first-value s t false n k h fits in (
      record {
        members = Primitive t (between k (k + n) s) Empty;
        legal = (p.legal, tt);
        spelled = p.taken ∙ sym (append-nil (tlv t false (between k (k + n) s)));
        counted = refl;
      },
      refl,
    )

-- a constructed value is opened
pub open-first : (s : List ℕ) (t : TagName) (n k : ℕ) → BeginsWithHeader s t true n k → k + n ≤ length s
    → Open s ((k + n) ∷ []) k 1
open-first s t n k h fits =
    let p = first-value s t true n k h fits in
    record {
      low = omega arith;
      high = fits;
      broken = λ e b.
          let legal : HasHeader t (length (spell b.members ++ b.rest)) = subst (λ (x : List ℕ). HasHeader t (length x))
          b.is p.legal in
          Inside t b.members b.rest (drop (k + n) s) legal.0 legal.1 b.legal
          (p.is ∙ ap (λ (x : List ℕ). tlv t true x ++ drop (k + n) s) b.is) b.fault;
      whole = λ vs st. (
        record {
          members = Constructed t vs Empty;
          legal = (subst (λ (x : List ℕ). HasHeader t (length x)) st.is p.legal, st.legal, tt);
          spelled = p.taken ∙ ap (λ (x : List ℕ). tlv t true x) st.is ∙ sym (append-nil (tlv t true (spell vs)));
          counted = refl;
        },
        omega arith,
      );
    }

-- the innermost value ends
pub open-end : (s ends : List ℕ) (place n : ℕ) → Open s (place ∷ ends) place n → Open s ends place n
open-end s ends place n o =
    let empty : place - place ≡ 0 = omega arith in
    let none : between place place s ≡ [] = ap (λ (x : ℕ). take x (drop place s)) empty in
    let same : n + 0 ≡ n = omega arith in
    subst (λ (x : ℕ). Open s ends place x) same (o.whole Empty (record { legal = tt; is = none }))

-- one more value has been read, of j header_count
level-read : (s : List ℕ) (place place' e m j : ℕ) (Then : ℕ → Type 0) (x : List ℕ) (one : Members → Members)
    → place' ≤ e → between place e s ≡ x ++ between place' e s
    → ((ws : Members) → HaveHeaders ws → HaveHeaders (one ws)) → ((ws : Members) → spell (one ws) ≡ x ++ spell ws)
    → ((ws : Members) → header_count (one ws) ≡ j + header_count ws)
    → Level s place e m Then → Level s place' e (m + j) Then
level-read s place place' e m j Then x one low parts legal spelled counted o = record {
  low = low;
  high = o.high;
  broken = λ f b. o.broken f (record {
    members = one b.members;
    legal = legal b.members b.legal;
    rest = b.rest;
    is = parts ∙ ap (λ (y : List ℕ). x ++ y) b.is ∙ sym (append_assoc x (spell b.members) b.rest) ∙ ap
        (λ (y : List ℕ). y ++ b.rest) (sym (spelled b.members));
    fault = b.fault;
  });
  whole = λ vs st.
      let sum : m + header_count (one vs) ≡ m + j + header_count vs = omega (arith, counted vs) in
      subst Then sum (o.whole (one vs) (record {
        legal = legal vs st.legal;
        is = parts ∙ ap (λ (y : List ℕ). x ++ y) st.is ∙ sym (spelled vs);
      }));
}

-- a primitive value inside
pub open-primitive : (s ends : List ℕ) (e place m : ℕ) (t : TagName) (n k : ℕ) → Open s (e ∷ ends) place m
    → BeginsWithHeader (between place e s) t false n k → k + n ≤ length (between place e s)
    → Open s (e ∷ ends) (place + k + n) (m + 1)
open-primitive s ends e place m t n k o h fits =
    let p = front-at s place e t false n k o.low o.high h fits in
    let c : List ℕ = between (place + k) (place + k + n) s in
    level-read s place (place + k + n) e m 1 (λ j. Open s ends e j) (tlv t false c) (λ ws. Primitive t c ws) p.fits p.is
    (λ ws l. (p.legal, l)) (λ ws. refl) (λ ws. refl) o

-- a constructed value inside is opened
pub open-constructed : (s ends : List ℕ) (e place m : ℕ) (t : TagName) (n k : ℕ) → Open s (e ∷ ends) place m
    → BeginsWithHeader (between place e s) t true n k → k + n ≤ length (between place e s)
    → Open s ((place + k + n) ∷ e ∷ ends) (place + k) (m + 1)
open-constructed s ends e place m t n k o h fits =
    let p = front-at s place e t true n k o.low o.high h fits in
    let after : List ℕ = between (place + k + n) e s in
    record {
      low = omega arith;
      high = omega (arith, p.fits, o.high);
      broken = λ f b. o.broken f (record {
        members = Empty;
        legal = tt;
        rest = between place e s;
        is = refl;
        fault =
            let legal : HasHeader t (length (spell b.members ++ b.rest)) = subst
            (λ (x : List ℕ). HasHeader t (length x)) b.is p.legal in
            Inside t b.members b.rest after legal.0 legal.1 b.legal
            (p.is ∙ ap (λ (x : List ℕ). tlv t true x ++ after) b.is) b.fault;
      });
      whole = λ vs st.
          let parts : between place e s ≡ tlv t true (spell vs) ++ after = p.is ∙ ap
          (λ (x : List ℕ). tlv t true x ++ after) st.is in
          let legal : HasHeader t (length (spell vs)) = subst (λ (x : List ℕ). HasHeader t (length x)) st.is p.legal in
          let sum : m + (1 + header_count vs) ≡ m + 1 + header_count vs = omega arith in
          subst (λ (x : ℕ). Open s (e ∷ ends) (place + k + n) x) sum
          (level-read s place (place + k + n) e m (1 + header_count vs) (λ j. Open s ends e j) (tlv t true (spell vs))
          (λ ws. Constructed t vs ws) p.fits parts (λ ws l. (legal, st.legal, l)) (λ ws. refl) (λ ws. refl) o);
    }

-- a fault where a value has to begin
pub open-fault : (s ends : List ℕ) (e place m : ℕ) (f : DecodeError) → Open s (e ∷ ends) place m
    → IsNestedFault (between place e s) f → IsNestedFault s f
open-fault s ends e place m f o h =
    o.broken f (record { members = Empty; legal = tt; rest = between place e s; is = refl; fault = h })

-- the last of the ends is the innermost
pub top : (ends : List ℕ) (e : ℕ) → slice_get ends (length ends - 1) ≡ Some e
    → reverse ends ≡ e ∷ reverse (take (length ends - 1) ends)
top [] e h = cc
top (x ∷ xs) e h =
    let n : ℕ = length (x ∷ xs) - 1 in
    let within : n < length (x ∷ xs) = omega arith in
    let more : n + 1 ≡ length (x ∷ xs) = omega arith in
    let all : take (n + 1) (x ∷ xs) ≡ x ∷ xs = ap (λ (k : ℕ). take k (x ∷ xs)) more ∙ take_all (length (x ∷ xs))
    (x ∷ xs) (omega arith) in
    let last : Some (get_or (x ∷ xs) n e) ≡ Some e = sym (slice_get-get_or (x ∷ xs) n e within) ∙ h in
    let same : get_or (x ∷ xs) n e ≡ e = cc in
    let split : x ∷ xs ≡ take n (x ∷ xs) ++ get_or (x ∷ xs) n e ∷ [] = sym all ∙ take_more (x ∷ xs) n e within in
    ap reverse split ∙ reverse-append (take n (x ∷ xs)) (get_or (x ∷ xs) n e ∷ []) ∙ ap
    (λ (y : ℕ). y ∷ reverse (take n (x ∷ xs))) same

pub at-false : (s : List ℕ) (t : TagName) (f : Bool) (n k : ℕ) → not f ≡ true → BeginsWithHeader s t f n k
    → BeginsWithHeader s t false n k
at-false s t true n k form h = absurd (cc form)
at-false s t false n k form h = h

pub at-true : (s : List ℕ) (t : TagName) (f : Bool) (n k : ℕ) → not f ≡ false → BeginsWithHeader s t f n k
    → BeginsWithHeader s t true n k
at-true s t true n k form h = h
at-true s t false n k form h = absurd (cc form)

-- the last of the ends
pub record Innermost (ends : List ℕ) (e : ℕ) : Type 0 where
  pub last : slice_get ends (length ends - 1) ≡ Some e

-- a value that is primitive is read at once
pub start-primitive : {s : List ℕ} {t : TagName} {f : Bool} {n k : ℕ} (j : ℕ) → not f ≡ true
    → BeginsWithHeader s t f n k → k + n ≤ length s → j ≡ 1 → IsValueOf j (take (k + n) s)
start-primitive {s} {t} {f} {n} {k} j form h fits one = subst (λ (x : ℕ). IsValueOf x (take (k + n) s)) (sym one)
    (value-primitive s t n k (at-false s t f n k form h) fits)
