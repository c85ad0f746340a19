-- Values by their headers, and with everything nested in them, by headers that are visited from the left.
use Rattle.std.proofs.Common.{◌≡◌, ◌≢◌, ◌∙◌, inl, inr, ℕ, ◌+◌, ◌<◌, Bool, true, false, List, [], ◌∷◌, ◌++◌}
use Rattle.std.proofs.Common.{length, Option, Some, None, refl, sym, ap, subst, arith, append_assoc, length-append}
use Rattle.std.proofs.Common.{append-nil, ◌-◌, take, drop, IfSome, IfNone}
use Rattle.std.proofs.lemmas.List.{drop_at, take_at, nil_from_length}
use Rattle.rpki_der.specs.declared.error.DecodeError.{DecodeError}
use Rattle.rpki_der.specs.declared.error.DecodeError.TheVariants.{Truncated, BadTag, BadLength, Unexpected, Content}
use Rattle.rpki_der.specs.declared.error.DecodeError.TheVariants.{Trailing, OutOfMemory}
use Rattle.rpki_der.specs.TagName.{TagName}
use Rattle.rpki_der.specs.Header.{tlv}
use Rattle.rpki_der.specs.Reading.{Accepts, Refuses, Refusal}
use Rattle.rpki_der.specs.WantedValue.{SpellsWanted, IsAnyTag, IsWantedFault}
use Rattle.rpki_der.specs.Each.{SpellsEach}
use Rattle.rpki_der.specs.Members.{Members, Empty, Primitive, Constructed, spell, HaveHeaders, count}
use Rattle.rpki_der.specs.Members.{IsValue, IsValueList}
use Rattle.rpki_der.specs.Members.{SpellsValue}
use Rattle.rpki_der.specs.ValueListLaws.{primitive_value_list}
use Rattle.rpki_der.specs.Walk.{SpellsAnyValue}
use Rattle.rpki_der.specs.NestedFault.{IsNestedFault, AtHeader, AtContents, Inside}
use Rattle.rpki_der.specs.Headed.{AreHeaded, StopsBefore, HasNestedFault}
use Rattle.rpki_der.proofs.EncodeLaws.{tlv-at-least}
use Rattle.rpki_der.proofs.MembersLaws.{header, HasHeader, same-value, no-fault-at-named-header, not-nothing}
use Rattle.rpki_der.proofs.MembersLaws.{value-accepted}
use Rattle.rpki_der.proofs.WalkLaws.{any-accepted}
use Rattle.rpki_der.proofs.NestedFaultLaws.{cut-at, flat, short-contents, fault-not-empty}

-- the tag, the form and the contents of a value
abbrev Parts : Type 0
Parts = TagName × Bool × List ℕ

abbrev Any : Parts → List ℕ → Type 0
Any = SpellsWanted IsAnyTag

-- ---- values by their headers

headed-join : (vs : List Parts) (a b : List ℕ) → SpellsEach Any vs a → AreHeaded b → AreHeaded (a ++ b)
headed-join [] a b h k = rw h k
headed-join (v ∷ vs) a b h k =
    let rest = headed-join vs h.0 b h.2 k in (
      v ∷ rest.0,
      (
        h.0 ++ b,
        record {
          front = h.1.front;
          parts = ap (λ (x : List ℕ). x ++ b) h.1.parts ∙ append_assoc h.1.front h.0 b;
          spelled = h.1.spelled;
        },
        rest.1,
      ),
    )

pub headed-append : (a b : List ℕ) → AreHeaded a → AreHeaded b → AreHeaded (a ++ b)
headed-append a b h k = headed-join h.0 a b h.1 k

pub headed-one : (x : Parts) (p : List ℕ) → Any x p → AreHeaded p
headed-one x p h = (x ∷ [], ([], record { front = p; parts = sym (append-nil p); spelled = h }, refl))

-- no header is there
pub no-front : (s : List ℕ) → s ≢ [] → Refuses Any s → AreHeaded s → ⊥
no-front s some none h = go h.0 h.1
  where
    go : (vs : List Parts) → SpellsEach Any vs s → ⊥
    go [] e = some e
    go (v ∷ vs) k = none v k.0 k.1

-- the values that follow the one at the front
pub headed-after : (s q : List ℕ) (x : Parts) → s ≢ [] → Accepts Any s x q → AreHeaded s → AreHeaded q
headed-after s q x some a h = go h.0 h.1
  where
    go : (vs : List Parts) → SpellsEach Any vs s → AreHeaded q
    go [] e = absurd (some e)
    go (v ∷ vs) k = (vs, subst (SpellsEach Any vs) (a.only v k.0 k.1).1 k.2)

pub any-shorter : (s q : List ℕ) (x : Parts) → Accepts Any s x q → length x.2 + length q < length s
any-shorter s q x a = omega (
  arith,
  ap length a.spells.parts,
  length-append a.spells.front q,
  ap length a.spells.spelled.value.octets,
  tlv-at-least x.0 x.1 x.2,
)

-- what the value at the front is, and what follows it
pub any-octets : (s q : List ℕ) (x : Parts) → Accepts Any s x q → s ≡ tlv x.0 x.1 x.2 ++ q
any-octets s q x a = a.spells.parts ∙ ap (λ (y : List ℕ). y ++ q) a.spells.spelled.value.octets

any-header : (s q : List ℕ) (x : Parts) → Accepts Any s x q → HasHeader x.0 (length x.2)
any-header s q x a = (a.spells.spelled.value.tag, a.spells.spelled.value.fits)

-- what follows the header at the front
pub behind-header : (s q : List ℕ) (x : Parts) (n : ℕ) → Accepts Any s x q → n ≡ length s - (length x.2 + length q)
    → drop n s ≡ x.2 ++ q
behind-header s q x n a is =
    let h : List ℕ = header x.0 x.1 (length x.2) in
    let e : s ≡ h ++ (x.2 ++ q) = any-octets s q x a ∙ flat x.0 x.1 x.2 q in
    let m : n ≡ length h = omega (arith, is, ap length e, length-append h (x.2 ++ q), length-append x.2 q) in
    rw (m, e) (drop_at h (x.2 ++ q) (length h) refl)

-- the octets of the value at the front, and what follows it
module _ (s q : List ℕ) (x : Parts) (n : ℕ) (a : Accepts Any s x q) (is : n ≡ length s - length q) where
  size : n ≡ length a.spells.front
  size = omega (arith, is, ap length a.spells.parts, length-append a.spells.front q)

  pub value-at : take n s ≡ a.spells.front
  value-at = rw (size, a.spells.parts) (take_at a.spells.front q (length a.spells.front) refl)

  pub behind-value : drop n s ≡ q
  behind-value = rw (size, a.spells.parts) (drop_at a.spells.front q (length a.spells.front) refl)

pub front-of-stop : (c : List ℕ) (n m : ℕ) (e : DecodeError) (h : StopsBefore c n e) → m ≡ length c - n
    → take m c ≡ h.front
front-of-stop c n m e h is =
    let k : m ≡ length h.front = omega (arith, is, h.size, ap length h.parts, length-append h.front h.rest) in
    rw (k, h.parts) (take_at h.front h.rest (length h.front) refl)

-- an error of the reader of any value, which takes no memory
pub any-refused : (s r : List ℕ) (e : DecodeError) → Refusal Any (IsWantedFault IsAnyTag) s r e → Refuses Any s
any-refused s r Truncated h = h.refuses
any-refused s r BadTag h = h.refuses
any-refused s r BadLength h = h.refuses
any-refused s r Unexpected h = h.refuses
any-refused s r (Content x) h = h.refuses
any-refused s r Trailing h = h.refuses
any-refused s r OutOfMemory h = absurd h.kind

pub any-fault : (s : List ℕ) (e : DecodeError) → s ≢ [] → IsWantedFault IsAnyTag s e → IsNestedFault s e
any-fault s Truncated some (inl h) = AtHeader some h
any-fault s Truncated some (inr (x, b, more, g)) =
    cut-at s more b x.0 x.1 x.2 some (g.value.tag, g.value.fits) g.value.octets
any-fault s BadTag some h = AtHeader some h
any-fault s BadLength some h = AtHeader some h
any-fault s Unexpected some (h, r, sp, none) = absurd (none tt)
any-fault s (Content x) some h = absurd h
any-fault s Trailing some h = absurd h
any-fault s OutOfMemory some h = absurd h

-- ---- where values by their headers are, and members

-- The octets c, which w follows, are where members and then y are: c is members with everything nested in them, and
-- others follow; or the members end among the values of c, in front of one of them.
data Among (c w y : List ℕ) : Type 0 where
  Within : (inner others : Members) → HaveHeaders inner → c ≡ spell inner → HaveHeaders others
      → w ≡ spell others ++ y → Among c w y
  Before : (inner : Members) (x : Parts) (p after : List ℕ) → HaveHeaders inner → Any x p
      → c ≡ spell inner ++ (p ++ after) → y ≡ (p ++ after) ++ w → Among c w y

behind-primitive : (t : TagName) (k c w y : List ℕ) → HasHeader t (length k) → Among c w y
    → Among (tlv t false k ++ c) w y
behind-primitive t k c w y legal (Within inner others h e l f) =
    Within (Primitive t k inner) others (legal, h) (ap (λ (z : List ℕ). tlv t false k ++ z) e) l f
behind-primitive t k c w y legal (Before inner x p after h one e f) =
    Before (Primitive t k inner) x p after (legal, h) one
    (ap (λ (z : List ℕ). tlv t false k ++ z) e ∙ sym (append_assoc (tlv t false k) (spell inner) (p ++ after))) f

behind-constructed : (t : TagName) (ms : Members) (c w y : List ℕ) → HasHeader t (length (spell ms)) → HaveHeaders ms
    → Among c w y → Among (tlv t true (spell ms) ++ c) w y
behind-constructed t ms c w y legal hs (Within inner others h e l f) =
    Within (Constructed t ms inner) others (legal, hs, h) (ap (λ (z : List ℕ). tlv t true (spell ms) ++ z) e) l f
behind-constructed t ms c w y legal hs (Before inner x p after h one e f) =
    Before (Constructed t ms inner) x p after (legal, hs, h) one
    (ap (λ (z : List ℕ). tlv t true (spell ms) ++ z) e
    ∙ sym (append_assoc (tlv t true (spell ms)) (spell inner) (p ++ after))) f

among : (vs : List Parts) (c w y : List ℕ) → SpellsEach Any vs c → (ms : Members) → HaveHeaders ms
    → c ++ w ≡ spell ms ++ y → Among c w y
among [] c w y none ms h e = Within Empty ms tt none h (ap (λ (z : List ℕ). z ++ w) (sym none) ∙ e)
among (x ∷ vs) c w y k Empty h e =
    Before Empty x k.1.front k.0 tt k.1.spelled k.1.parts (sym e ∙ ap (λ (z : List ℕ). z ++ w) k.1.parts)
among (x ∷ vs) c w y k (Primitive t d rest) h e =
    let v = k.1.spelled.value in
    let is : c ≡ tlv x.0 x.1 x.2 ++ k.0 = k.1.parts ∙ ap (λ (z : List ℕ). z ++ k.0) v.octets in
    let whole : tlv x.0 x.1 x.2 ++ (k.0 ++ w) ≡ tlv t false d ++ (spell rest ++ y) =
    sym (append_assoc (tlv x.0 x.1 x.2) k.0 w) ∙ ap (λ (z : List ℕ). z ++ w) (sym is) ∙ e
    ∙ append_assoc (tlv t false d) (spell rest) y in
    let same = same-value x.0 t x.1 false x.2 d (k.0 ++ w) (spell rest ++ y) (v.tag, v.fits) h.0 whole in
    let one : c ≡ tlv t false d ++ k.0 = rw (← same.tag, ← same.form, ← same.contents) is in
    subst (λ (z : List ℕ). Among z w y) (sym one)
    (behind-primitive t d k.0 w y h.0 (among vs k.0 w y k.2 rest h.1 same.rest))
among (x ∷ vs) c w y k (Constructed t ms rest) h e =
    let v = k.1.spelled.value in
    let is : c ≡ tlv x.0 x.1 x.2 ++ k.0 = k.1.parts ∙ ap (λ (z : List ℕ). z ++ k.0) v.octets in
    let whole : tlv x.0 x.1 x.2 ++ (k.0 ++ w) ≡ tlv t true (spell ms) ++ (spell rest ++ y) =
    sym (append_assoc (tlv x.0 x.1 x.2) k.0 w) ∙ ap (λ (z : List ℕ). z ++ w) (sym is) ∙ e
    ∙ append_assoc (tlv t true (spell ms)) (spell rest) y in
    let same = same-value x.0 t x.1 true x.2 (spell ms) (k.0 ++ w) (spell rest ++ y) (v.tag, v.fits) h.0 whole in
    let one : c ≡ tlv t true (spell ms) ++ k.0 = rw (← same.tag, ← same.form, ← same.contents) is in
    subst (λ (z : List ℕ). Among z w y) (sym one)
    (behind-constructed t ms k.0 w y h.0 h.1 (among vs k.0 w y k.2 rest h.2 same.rest))

-- ---- faults

-- a fault inside a value is its fault, whatever follows the value
inside-value : (t : TagName) (f : Bool) (c x y : List ℕ) (e : DecodeError) → HasHeader t (length c)
    → (s : List ℕ) → s ≡ tlv t f c ++ x → IsNestedFault s e → IsNestedFault (tlv t f c ++ y) e
inside-value t f c x y e legal s is (AtHeader some h) =
    absurd (no-fault-at-named-header s e t f (length c) (c ++ x) h legal (is ∙ flat t f c x))
inside-value t f c x y e legal s is (AtContents h r sp short) =
    absurd (short-contents s h r t f c x sp short legal (is ∙ flat t f c x))
inside-value t f c x y e legal s is (Inside u ms r after tag fits hs parts fault) =
    let same = same-value t u f true c (spell ms ++ r) x after legal (tag, fits) (sym is ∙ parts) in
    Inside u ms r y tag fits hs
    (ap (λ (z : TagName). tlv z f c ++ y) same.tag ∙ ap (λ (z : Bool). tlv u z c ++ y) same.form
    ∙ ap (λ (z : List ℕ). tlv u true z ++ y) same.contents) fault

-- the fault of contents is that of the value
pub enclosed : (t : TagName) (c w : List ℕ) (e : DecodeError) → HasHeader t (length c) → HasNestedFault c e
    → HasNestedFault (tlv t true c ++ w) e
enclosed t c w e legal h = record {
  members = Empty;
  rest = tlv t true c ++ w;
  legal = tt;
  parts = refl;
  fault = Inside t h.members h.rest w legal.0 (rw (← h.parts) legal.1) h.legal
      (ap (λ (z : List ℕ). tlv t true z ++ w) h.parts) h.fault;
}

pub past-primitive : (t : TagName) (c w : List ℕ) (e : DecodeError) → HasHeader t (length c) → HasNestedFault w e
    → HasNestedFault (tlv t false c ++ w) e
past-primitive t c w e legal h = record {
  members = Primitive t c h.members;
  rest = h.rest;
  legal = (legal, h.legal);
  parts = ap (λ (z : List ℕ). tlv t false c ++ z) h.parts
      ∙ sym (append_assoc (tlv t false c) (spell h.members) h.rest);
  fault = h.fault;
}

-- the fault of tiled contents and of what follows them is that of the value around them, and of what follows it
pub opened : (t : TagName) (c w : List ℕ) (e : DecodeError) → HasHeader t (length c) → AreHeaded c
    → HasNestedFault (c ++ w) e → HasNestedFault (tlv t true c ++ w) e
opened t c w e legal tiles h = go (among tiles.0 c w h.rest tiles.1 h.members h.legal h.parts)
  where
    go : Among c w h.rest → HasNestedFault (tlv t true c ++ w) e
    go (Within inner others hi is ho f) = record {
      members = Constructed t inner others;
      rest = h.rest;
      legal = (rw (← is) legal, hi, ho);
      parts = ap (λ (z : List ℕ). tlv t true z ++ w) is ∙ ap (λ (z : List ℕ). tlv t true (spell inner) ++ z) f
          ∙ sym (append_assoc (tlv t true (spell inner)) (spell others) h.rest);
      fault = h.fault;
    }
    go (Before inner x p after hi one is f) =
        let v = one.value in
        let at : h.rest ≡ tlv x.0 x.1 x.2 ++ (after ++ w) =
        f ∙ append_assoc p after w ∙ ap (λ (z : List ℕ). z ++ (after ++ w)) v.octets in
        let front : IsNestedFault (tlv x.0 x.1 x.2 ++ after) e =
        inside-value x.0 x.1 x.2 (after ++ w) after e (v.tag, v.fits) h.rest at h.fault in
        enclosed t c w e legal (record {
          members = inner;
          rest = p ++ after;
          legal = hi;
          parts = is;
          fault = subst (λ (z : List ℕ). IsNestedFault (z ++ after) e) (sym v.octets) front;
        })

-- ---- values

pub list-before : (t : TagName) (c w : List ℕ) → HasHeader t (length c) → IsValueList w
    → IsValueList (tlv t false c ++ w)
list-before t c w legal (k, h) = (
  1 + k,
  record {
    members = Primitive t c h.members;
    legal = (legal, h.legal);
    spelled = ap (λ (z : List ℕ). tlv t false c ++ z) h.spelled;
    counted = ap (λ (n : ℕ). 1 + n) h.counted;
  },
)

pub list-opened : (t : TagName) (c w : List ℕ) → HasHeader t (length c) → AreHeaded c → IsValueList (c ++ w)
    → IsValueList (tlv t true c ++ w)
list-opened t c w legal tiles (k, h) =
    go (among tiles.0 c w [] tiles.1 h.members h.legal (h.spelled ∙ sym (append-nil (spell h.members))))
  where
    go : Among c w [] → IsValueList (tlv t true c ++ w)
    go (Within inner others hi is ho f) = (
      count (Constructed t inner others),
      record {
        members = Constructed t inner others;
        legal = (rw (← is) legal, hi, ho);
        spelled = ap (λ (z : List ℕ). tlv t true z ++ w) is
            ∙ ap (λ (z : List ℕ). tlv t true (spell inner) ++ z) (f ∙ append-nil (spell others));
        counted = refl;
      },
    )
    go (Before inner x p after hi one is f) =
        absurd (not-nothing x.0 x.1 x.2 (after ++ w) (f ∙ append_assoc p after w
        ∙ ap (λ (z : List ℕ). z ++ (after ++ w)) one.value.octets))

-- ---- the loop

-- the fault of d is that of s
abbrev pub Faults : List ℕ → List ℕ → Type 0
Faults s d = (e : DecodeError) → HasNestedFault d e → HasNestedFault s e

-- d is left to be visited of s, and after it the fault, if one was found
abbrev pub IsPending : List ℕ → List ℕ → Option DecodeError → Type 0
IsPending s d None = Faults s d × (IsValueList d → IsValueList s)
IsPending s d (Some e) = (r : List ℕ) × IsNestedFault r e × Faults s (d ++ r)

pub pending-primitive : (s d q c : List ℕ) (t : TagName) (fault : Option DecodeError) → Accepts Any d (t, false, c) q
    → IsPending s d fault → IsPending s q fault
pending-primitive s d q c t None a p =
    let is = any-octets d q (t, false, c) a in
    let legal = any-header d q (t, false, c) a in (
      λ e h. p.0 e (subst (λ (z : List ℕ). HasNestedFault z e) (sym is) (past-primitive t c q e legal h)),
      λ h. p.1 (subst IsValueList (sym is) (list-before t c q legal h)),
    )
pending-primitive s d q c t (Some f) a (r, fault, p) =
    let is = any-octets d q (t, false, c) a in
    let legal = any-header d q (t, false, c) a in (
      r,
      fault,
      λ e h. p e (subst (λ (z : List ℕ). HasNestedFault z e)
          (sym (append_assoc (tlv t false c) q r) ∙ ap (λ (z : List ℕ). z ++ r) (sym is))
          (past-primitive t c (q ++ r) e legal h)),
    )

pub pending-opened : (s d q c : List ℕ) (t : TagName) (fault : Option DecodeError) → Accepts Any d (t, true, c) q
    → AreHeaded c → IsPending s d fault → IsPending s (c ++ q) fault
pending-opened s d q c t None a tiles p =
    let is = any-octets d q (t, true, c) a in
    let legal = any-header d q (t, true, c) a in (
      λ e h. p.0 e (subst (λ (z : List ℕ). HasNestedFault z e) (sym is) (opened t c q e legal tiles h)),
      λ h. p.1 (subst IsValueList (sym is) (list-opened t c q legal tiles h)),
    )
pending-opened s d q c t (Some f) a tiles (r, fault, p) =
    let is = any-octets d q (t, true, c) a in
    let legal = any-header d q (t, true, c) a in (
      r,
      fault,
      λ e h. p e (subst (λ (z : List ℕ). HasNestedFault z e)
          (sym (append_assoc (tlv t true c) q r) ∙ ap (λ (z : List ℕ). z ++ r) (sym is))
          (opened t c (q ++ r) e legal tiles (subst (λ (z : List ℕ). HasNestedFault z e) (append_assoc c q r) h))),
    )

pub pending-stopped : (s d q c : List ℕ) (t : TagName) (fault : Option DecodeError) (n : ℕ) (e : DecodeError)
    → Accepts Any d (t, true, c) q → (h : StopsBefore c n e) → IsPending s d fault → IsPending s h.front (Some e)
pending-stopped s d q c t None n e a h p =
    let is = any-octets d q (t, true, c) a in
    let legal = any-header d q (t, true, c) a in (
      h.rest,
      h.fault,
      λ f k. p.0 f (subst (λ (z : List ℕ). HasNestedFault z f) (sym is)
          (enclosed t c q f legal (subst (λ (z : List ℕ). HasNestedFault z f) (sym h.parts) k))),
    )
pending-stopped s d q c t (Some g) n e a h (r, fault, p) =
    let is = any-octets d q (t, true, c) a in
    let legal = any-header d q (t, true, c) a in (
      h.rest,
      h.fault,
      λ f k. p f (subst (λ (z : List ℕ). HasNestedFault z f)
          (sym (append_assoc (tlv t true c) q r) ∙ ap (λ (z : List ℕ). z ++ r) (sym is))
          (enclosed t c (q ++ r) f legal (subst (λ (z : List ℕ). HasNestedFault z f) (sym h.parts) k))),
    )

-- all of it was visited
pub pending-some : (s d : List ℕ) (fault : Option DecodeError) → d ≡ [] → IsPending s d fault
    → IfSome fault (λ e. HasNestedFault s e)
pending-some s d None z p = tt
pending-some s d (Some e) z (r, fault, p) = p e (record {
  members = Empty;
  rest = r;
  legal = tt;
  parts = ap (λ (x : List ℕ). x ++ r) z;
  fault = fault;
})

pub pending-none : (s d : List ℕ) (fault : Option DecodeError) → d ≡ [] → IsPending s d fault
    → IfNone fault (IsValueList s)
pending-none s d None z p = p.1 (rw z (0, record { members = Empty; legal = tt; spelled = refl; counted = refl }))
pending-none s d (Some e) z p = tt

-- ---- one value by its header

one-value : (x : Parts) (p : List ℕ) → Any x p → IsValueList p → IsValue p
one-value x p h (k, v) = go v.members v.legal v.spelled
  where
    one : p ≡ tlv x.0 x.1 x.2 ++ []
    one = h.value.octets ∙ sym (append-nil (tlv x.0 x.1 x.2))

    none : (rest : Members) → [] ≡ spell rest → count rest ≡ 0
    none Empty e = refl
    none (Primitive t c more) e = absurd (not-nothing t false c (spell more) e)
    none (Constructed t ms more) e = absurd (not-nothing t true (spell ms) (spell more) e)

    go : (ms : Members) → HaveHeaders ms → p ≡ spell ms → IsValue p
    go Empty l e = absurd (not-nothing x.0 x.1 x.2 [] (sym e ∙ one))
    go (Primitive t c rest) l e =
        let same = same-value x.0 t x.1 false x.2 c [] (spell rest) (h.value.tag, h.value.fits) l.0 (sym one ∙ e) in
        let n = none rest same.rest in
        record { members = Primitive t c rest; legal = l; spelled = e; counted = omega (arith, n) }
    go (Constructed t ms rest) l e =
        let same = same-value x.0 t x.1 true x.2 (spell ms) [] (spell rest) (h.value.tag, h.value.fits) l.0
        (sym one ∙ e) in
        let n = none rest same.rest in
        record { members = Constructed t ms rest; legal = l; spelled = e; counted = omega (arith, n) }

fault-of-one : (x : Parts) (p q : List ℕ) (e : DecodeError) → Any x p → HasNestedFault p e
    → IsNestedFault (p ++ q) e
fault-of-one x p q e one h = go h.members h.legal h.parts
  where
    is : p ≡ tlv x.0 x.1 x.2 ++ []
    is = one.value.octets ∙ sym (append-nil (tlv x.0 x.1 x.2))

    no-more : (a : List ℕ) → [] ≡ a ++ h.rest → ⊥
    no-more a z = fault-not-empty h.fault (nil_from_length h.rest (omega (arith, ap length z, length-append a h.rest)))

    go : (ms : Members) → HaveHeaders ms → p ≡ spell ms ++ h.rest → IsNestedFault (p ++ q) e
    go Empty l z = subst (λ (y : List ℕ). IsNestedFault (y ++ q) e) (sym one.value.octets)
        (inside-value x.0 x.1 x.2 [] q e (one.value.tag, one.value.fits) h.rest (sym z ∙ is) h.fault)
    go (Primitive t c rest) l z =
        let whole = sym is ∙ z ∙ append_assoc (tlv t false c) (spell rest) h.rest in
        let same = same-value x.0 t x.1 false x.2 c [] (spell rest ++ h.rest) (one.value.tag, one.value.fits) l.0 whole
        in
        absurd (no-more (spell rest) same.rest)
    go (Constructed t ms rest) l z =
        let whole = sym is ∙ z ∙ append_assoc (tlv t true (spell ms)) (spell rest) h.rest in
        let same = same-value x.0 t x.1 true x.2 (spell ms) [] (spell rest ++ h.rest)
        (one.value.tag, one.value.fits) l.0 whole in
        absurd (no-more (spell rest) same.rest)

-- the value at the front, of which its header was read, and then what is nested in it
pub nested-found : (s q v : List ℕ) (x : Parts) (a : Accepts Any s x q) → v ≡ a.spells.front → IsValueList v
    → Accepts SpellsAnyValue s tt q
nested-found s q v x a is list =
    let one = one-value x a.spells.front a.spells.spelled (subst IsValueList is list) in
    any-accepted (subst (λ (y : List ℕ). Accepts SpellsValue y a.spells.front q) (sym a.spells.parts)
    (value-accepted a.spells.front q one))

-- a primitive value has nothing nested in it
pub primitive-found : (s q c : List ℕ) (t : TagName) → Accepts Any s (t, false, c) q → Accepts SpellsAnyValue s tt q
primitive-found s q c t a =
    let v = a.spells.spelled.value in
    nested-found s q a.spells.front (t, false, c) a refl
    (subst IsValueList (sym v.octets) (primitive_value_list t c v.tag v.fits))

pub nested-missed : (s q v : List ℕ) (x : Parts) (e : DecodeError) (a : Accepts Any s x q) → v ≡ a.spells.front
    → HasNestedFault v e → IsNestedFault s e
nested-missed s q v x e a is fault = subst (λ (y : List ℕ). IsNestedFault y e) (sym a.spells.parts)
    (fault-of-one x a.spells.front q e a.spells.spelled (subst (λ (y : List ℕ). HasNestedFault y e) is fault))
