-- Laws of members: octets are one list of values at every depth, and no value begins another.
use Rattle.std.proofs.Common.{◌≡◌, ℕ, ◌+◌, ◌*◌, ◌/◌, ◌%◌, ◌<◌, ◌≤◌, ◌^◌, Bool, true, false, List, [], ◌∷◌, ◌++◌, length}
use Rattle.std.proofs.Common.{refl, sym, ap, ◌∙◌, arith, append_assoc, append-nil, length-append}
use Rattle.std.specs.Prelude.{nat_lt, if◌then◌else◌}
use Rattle.std.proofs.lemmas.List.{nil_from_length, append_cancel_left}
use Rattle.rpki_der.specs.declared.error.DecodeError.{DecodeError}
use Rattle.rpki_der.specs.declared.tag.Header.{Header}
use Rattle.rpki_der.specs.TagName.{TagName, IsTag}
use Rattle.rpki_der.specs.Header.{digits, lead, identifier_octets, length_octets, tlv}
use Rattle.rpki_der.specs.Reading.{Spells, Accepts}
use Rattle.rpki_der.specs.Values.{SpellsHeader, IsHeaderFault}
use Rattle.rpki_der.specs.Members.{Members, Empty, Primitive, Constructed, spell, HaveHeaders, count, header_count}
use Rattle.rpki_der.specs.Members.{AreValues, IsValue, IsValueOf, SpellsValue}
use Rattle.rpki_der.proofs.HeaderReadingLaws.{one-header}
use Rattle.rpki_der.proofs.HeaderFaultLaws.{no-fault-at-header}

-- the header of a tag, a form and a length of contents
abbrev pub header : TagName → Bool → ℕ → List ℕ
header t f n = identifier_octets t f ++ length_octets n

abbrev pub HasHeader : TagName → ℕ → Type 0
HasHeader t n = IsTag t × (n < 2 ^ 32)

abbrev pub header_of : TagName → Bool → ℕ → Header
header_of t f n = record { tag = t; constructed = f; length = n }

pub spells-header : (t : TagName) (f : Bool) (n : ℕ) (x s : List ℕ) → HasHeader t n → s ≡ header t f n ++ x
    → Spells SpellsHeader s (header_of t f n) x
spells-header t f n x s h e = record {
  front = header t f n;
  parts = e;
  spelled = record
      { legal = record { tag = h.0; length = h.1 }; octets = refl };
}

-- ---- what is used of headers

some-identifier : (t : TagName) (f : Bool) → 1 ≤ length (identifier_octets t f)
unfolding identifier_octets
some-identifier t f = go (nat_lt t.number 31)
  where
    go : (b : Bool)
        → 1 ≤ length (if b then lead t f t.number ∷ [] else lead t f 31 ∷
        (digits 128 128 3 (t.number / 128) ++ (t.number % 128) ∷ []))
    go true = omega arith
    go false = omega arith

some-length : (n : ℕ) → 1 ≤ length (length_octets n)
unfolding length_octets
some-length n = go (nat_lt n 128)
  where
    go : (b : Bool) → 1 ≤ length (if b then n ∷ [] else (128 + length (digits 256 0 4 n)) ∷ digits 256 0 4 n)
    go true = omega arith
    go false = omega arith

pub two-octets : (t : TagName) (f : Bool) (n : ℕ) → 2 ≤ length (header t f n)
two-octets t f n =
    omega (arith, some-identifier t f, some-length n, length-append (identifier_octets t f) (length_octets n))

-- one header, read twice
pub record SameHeader (t t' : TagName) (f f' : Bool) (n n' : ℕ) (x y : List ℕ) : Type 0 where
  pub tag : t ≡ t'
  pub form : f ≡ f'
  pub size : n ≡ n'
  pub rest : x ≡ y

pub same-header : (t t' : TagName) (f f' : Bool) (n n' : ℕ) (x y : List ℕ) → HasHeader t n → HasHeader t' n'
    → header t f n ++ x ≡ header t' f' n' ++ y → SameHeader t t' f f' n n' x y
same-header t t' f f' n n' x y h h' e =
    let s : List ℕ = header t f n ++ x in
    let same = one-header s (header_of t f n) (header_of t' f' n') x y (spells-header t f n x s h refl)
    (spells-header t' f' n' y s h' e) in
    record {
      tag = ap (λ (k : Header). k.tag) same.0;
      form = ap (λ (k : Header). k.constructed) same.0;
      size = ap (λ (k : Header). k.length) same.0;
      rest = same.1;
    }

pub no-fault-at-named-header : (s : List ℕ) (e : DecodeError) (t : TagName) (f : Bool) (n : ℕ) (x : List ℕ)
    → IsHeaderFault s e → HasHeader t n → s ≡ header t f n ++ x → ⊥
no-fault-at-named-header s e t f n x fault h is =
    no-fault-at-header s e (header_of t f n) x fault (spells-header t f n x s h is)

-- ---- values

-- each header takes two octets or more
pub half : (vs : Members) → 2 * header_count vs ≤ length (spell vs)
half Empty = omega arith
half (Primitive t c rest) = omega (
  arith,
  half rest,
  two-octets t false (length c),
  length-append (tlv t false c)
      (spell rest),
  length-append (header t false (length c)) c,
)
half (Constructed t ms rest) = omega (
  arith,
  half ms,
  half rest,
  two-octets t true (length (spell ms)),
  length-append
      (tlv t true (spell ms)) (spell rest),
  length-append (header t true (length (spell ms))) (spell ms),
)

-- a value read twice
pub record SameValue (t t' : TagName) (f f' : Bool) (c c' x y : List ℕ) : Type 0 where
  pub tag : t ≡ t'
  pub form : f ≡ f'
  pub contents : c ≡ c'
  pub rest : x ≡ y

-- contents of one length, then rests
same-split : (c c' x y : List ℕ) → length c ≡ length c' → c ++ x ≡ c' ++ y → (c ≡ c') × (x ≡ y)
same-split [] [] x y l e = (refl, e)
same-split [] (a ∷ c') x y l e = absurd (omega arith)
same-split (a ∷ c) [] x y l e = absurd (omega arith)
same-split (a ∷ c) (b ∷ c') x y l e =
    let tails : c ++ x ≡ c' ++ y = cc in
    let heads : a ≡ b = cc in
    let both = same-split c c' x y (omega arith) tails in
    let one = both.0 in
    (cc, both.1)

pub same-value : (t t' : TagName) (f f' : Bool) (c c' x y : List ℕ) → HasHeader t (length c) → HasHeader t' (length c')
    → tlv t f c ++ x ≡ tlv t' f' c' ++ y → SameValue t t' f f' c c' x y
same-value t t' f f' c c' x y h h' e =
    let e' : header t f (length c) ++ (c ++ x) ≡ header t' f' (length c') ++ (c' ++ y) =
    sym (append_assoc (header t f (length c)) c x) ∙ e ∙ append_assoc (header t' f' (length c')) c' y in
    let same = same-header t t' f f' (length c) (length c') (c ++ x) (c' ++ y) h h' e' in
    let split = same-split c c' x y same.size same.rest in
    record { tag = same.tag; form = same.form; contents = split.0; rest = split.1 }

-- a value is not nothing
pub not-nothing : (t : TagName) (f : Bool) (c x : List ℕ) → [] ≡ tlv t f c ++ x → ⊥
not-nothing t f c x e = omega (
  arith,
  two-octets t f (length c),
  length-append (tlv t f c) x,
  length-append
      (header t f (length c)) c,
  ap length e,
)

-- octets are the spelling of one list of values, at every depth
pub one-reading : (vs ws : Members) → HaveHeaders vs → HaveHeaders ws → spell vs ≡ spell ws → vs ≡ ws
one-reading Empty Empty h h' e = refl
one-reading Empty (Primitive t' c' rest') h h' e = absurd (not-nothing t' false c' (spell rest') e)
one-reading Empty (Constructed t' ms' rest') h h' e = absurd (not-nothing t' true (spell ms') (spell rest') e)
one-reading (Primitive t c rest) Empty h h' e = absurd (not-nothing t false c (spell rest) (sym e))
one-reading (Constructed t ms rest) Empty h h' e = absurd (not-nothing t true (spell ms) (spell rest) (sym e))
one-reading (Primitive t c rest) (Primitive t' c' rest') h h' e =
    let same = same-value t t' false false c c' (spell rest) (spell rest') h.0 h'.0 e in
    let ih = one-reading rest rest' h.1 h'.1 same.rest in
    cc
one-reading (Primitive t c rest) (Constructed t' ms' rest') h h' e =
    let same = same-value t t' false true c (spell ms') (spell rest) (spell rest') h.0 h'.0 e in
    absurd (cc (same.form))
one-reading (Constructed t ms rest) (Primitive t' c' rest') h h' e =
    let same = same-value t t' true false (spell ms) c' (spell rest) (spell rest') h.0 h'.0 e in
    absurd (cc (same.form))
one-reading (Constructed t ms rest) (Constructed t' ms' rest') h h' e =
    let same = same-value t t' true true (spell ms) (spell ms') (spell rest) (spell rest') h.0 h'.0 e in
    let inner = one-reading ms ms' h.1 h'.1 same.contents in
    let outer = one-reading rest rest' h.2 h'.2 same.rest in
    cc

pub none-left : (vs : Members) → count vs ≡ 0 → vs ≡ Empty
none-left Empty e = refl
none-left (Primitive t c rest) e = absurd (omega arith)
none-left (Constructed t ms rest) e = absurd (omega arith)

-- one value is read in one way, whatever follows
one-value : (v w : Members) (x y : List ℕ) → HaveHeaders v → HaveHeaders w → count v ≡ 1 → count w ≡ 1
    → spell v ++ x ≡ spell w ++ y → v ≡ w
one-value Empty w x y h h' p q e = absurd (omega arith)
one-value (Primitive t c rest) Empty x y h h' p q e = absurd (omega arith)
one-value (Constructed t ms rest) Empty x y h h' p q e = absurd (omega arith)
one-value (Primitive t c rest) (Primitive t' c' rest') x y h h' p q e =
    let e' = sym (append_assoc (tlv t false c) (spell rest) x) ∙ e ∙ append_assoc (tlv t' false c') (spell rest') y in
    let same = same-value t t' false false c c' (spell rest ++ x) (spell rest' ++ y) h.0 h'.0 e' in
    let end = none-left rest (omega arith) in
    let end' = none-left rest' (omega arith) in
    cc
one-value (Primitive t c rest) (Constructed t' ms' rest') x y h h' p q e =
    let e' = sym (append_assoc (tlv t false c) (spell rest) x) ∙ e ∙ append_assoc (tlv t' true (spell ms'))
    (spell rest') y in
    let same = same-value t t' false true c (spell ms') (spell rest ++ x) (spell rest' ++ y) h.0 h'.0 e' in
    absurd (cc (same.form))
one-value (Constructed t ms rest) (Primitive t' c' rest') x y h h' p q e =
    let e' = sym (append_assoc (tlv t true (spell ms)) (spell rest) x) ∙ e ∙ append_assoc (tlv t' false c')
    (spell rest') y in
    let same = same-value t t' true false (spell ms) c' (spell rest ++ x) (spell rest' ++ y) h.0 h'.0 e' in
    absurd (cc (same.form))
one-value (Constructed t ms rest) (Constructed t' ms' rest') x y h h' p q e =
    let e' = sym (append_assoc (tlv t true (spell ms)) (spell rest) x) ∙ e ∙ append_assoc (tlv t' true (spell ms'))
    (spell rest') y in
    let same = same-value t t' true true (spell ms) (spell ms') (spell rest ++ x) (spell rest' ++ y) h.0 h'.0 e' in
    let inner = one-reading ms ms' h.1 h'.1 same.contents in
    let end = none-left rest (omega arith) in
    let end' = none-left rest' (omega arith) in
    cc

-- no value begins another, and each has one number of headers
pub one-beginning : (a b x y : List ℕ) (v : IsValue a) (w : IsValue b) → a ++ x ≡ b ++ y
    → (a ≡ b) × (v.members ≡ w.members)
one-beginning a b x y v w e =
    let e' : spell v.members ++ x ≡ spell w.members ++ y =
    ap (λ (z : List ℕ). z ++ x) (sym v.spelled) ∙ e ∙ ap (λ (z : List ℕ). z ++ y) w.spelled in
    let same = one-value v.members w.members x y v.legal w.legal v.counted w.counted e' in
    (v.spelled ∙ ap spell same ∙ sym w.spelled, same)

-- no proper beginning of a value is a value
pub value-alone : (value other rest : List ℕ) → IsValue value → IsValue other → value ≡ other ++ rest → rest ≡ []
value-alone value other rest v w is =
    let same = one-beginning value other [] rest v w (append-nil value ∙ is) in
    nil_from_length rest (omega (arith, ap length is, ap length same.0, length-append other rest))

-- where there are values twice, the members are the same at every depth
pub one-list : {octets : List ℕ} {j k : ℕ} (v : AreValues j octets) (w : AreValues k octets) → v.members ≡ w.members
one-list v w = one-reading v.members w.members v.legal w.legal (sym v.spelled ∙ w.spelled)

-- a value takes two octets or more for each header
pub half-of : (a : List ℕ) (n : ℕ) → IsValueOf n a → 2 * n ≤ length a
half-of a n v = omega (arith, half v.0.members, v.1, ap length v.0.spelled)

-- a value is not nothing
pub value-some : {a : List ℕ} → IsValue a → 0 < length a
value-some {a} v = go v.members v.counted v.spelled
  where
    go : (vs : Members) → count vs ≡ 1 → a ≡ spell vs → 0 < length a
    go Empty p is = absurd (omega arith)
    go (Primitive t c rest) p is = omega (
      arith,
      ap length is,
      two-octets t false (length c),
      length-append (tlv t false c) (spell rest),
      length-append
          (header t false (length c)) c,
    )
    go (Constructed t ms rest) p is = omega (
      arith,
      ap length is,
      two-octets t true (length (spell ms)),
      length-append (tlv t true (spell ms)) (spell rest),
      length-append (header t true (length (spell ms))) (spell ms),
    )

-- a value is the one beginning that is a value
pub value-accepted : (value rest : List ℕ) → IsValue value → Accepts SpellsValue (value ++ rest) value rest
value-accepted value rest v = record {
  spells = record { front = value; parts = refl; spelled = record { same = refl; value = v } };
  only = λ w q f.
      let begins : w ++ q ≡ value ++ rest = ap (λ (x : List ℕ). x ++ q) (sym f.spelled.same) ∙ sym f.parts in
      let same = (one-beginning w value q rest f.spelled.value v begins).0 in
      (same, append_cancel_left value q rest (ap (λ (x : List ℕ). x ++ q) (sym same) ∙ begins));
}
