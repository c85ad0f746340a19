-- The functions decide contents as the relations of rpki_der say.
use Rattle.std.proofs.Common.{◌≡◌, ◌≢◌, ℕ, zero, suc, ◌⊎◌, ◌<◌, ◌+◌, ◌-◌, Bool, true, false, List, [], ◌∷◌, length}
use Rattle.std.proofs.Common.{refl, sym, ap, ◌∙◌}
use Rattle.std.proofs.Common.{inl, inr, arith, ◌||◌, Some, get_or, nat_lt, nat_eq, if◌then◌else◌}
use Rattle.std.proofs.lemmas.Bool.{false≢true, false_from_ne_true, eq-eqb, eqb-true, lt-ltb}
use borrow.Author.Tests.{ltb-true}
use Rattle.rpki_der.specs.Leaves.{Bits, AreBits, IsBits, bits_of, IsNull, IsBoolean, IsSized, IsOid, IsOidOf, IsOnly}
use Rattle.rpki_der.specs.Leaves.{boolean_contents}
use Rattle.rpki_der.specs.Number.{number_of, AreOctets}
use Rattle.rpki_der.specs.Integer.{IsUnsigned, IsUnsignedBelow, IsNumber, IsMinimal}
use Rattle.rpki_der.specs.Text.{are_printable, IsPrintableText, IsUtf8Text, IsIa5Text}
use Rattle.rpki_der.proofs.StepLaws.{IsBytes}
use Rattle.rpki_der.proofs.IntegerLaws.{minimal-contents, minimal-IsUnsigned}
use Rattle.std.specs.List.{list_all}
use Rattle.std.specs.Str.{is_utf8, IsAscii}
use Rattle.std.proofs.lemmas.Slice.Eq.{bytes_eq-Decides}
use Rattle.std.proofs.lemmas.Str.{IsUtf8-from_is_utf8, is_utf8-from_IsUtf8}
use Rattle.rpki_parse.specs.Leaf.{some_if, null_in, boolean_in, is_minimal, unsigned_in, below_in, number_in, sized_in}
use Rattle.rpki_parse.specs.Leaf.{only_in, oid_from, is_oid, oid_in, bits_legal, bits_in, printable_in}
use Rattle.rpki_parse.specs.Leaf.{utf8_in, ia5_in}
use Rattle.rpki_parse.proofs.ValueLaws.{and-parts}
use Rattle.rpki_parse.proofs.LeafLaws.{Decides}

some-if : {V : Type 0} (b : Bool) (v w : V) → some_if b v ≡ Some w → (b ≡ true) × (v ≡ w)
some-if true v w e = (refl, cc)
some-if false v w e = absurd cc

or-parts : (a b : Bool) → (a || b) ≡ true → (a ≡ true) ⊎ (b ≡ true)
or-parts true b h = inl refl
or-parts false b h = inr h

or-true : (a : Bool) → (a || true) ≡ true
or-true true = refl
or-true false = refl

-- contents that stand for themselves
self_decides : (C : List ℕ → List ℕ → Type 0) (d : List ℕ → Bool) → ((v c : List ℕ) → C v c → c ≡ v)
    → ((c : List ℕ) → C c c → d c ≡ true) → ((c : List ℕ) → IsBytes c → d c ≡ true → C c c)
    → Decides C (λ c. some_if (d c) c)
self_decides C d one up down = record {
  complete = λ v c h. let same = one v c h in let h' : C c c = rw (← same) at h in rw (← same, up c h') refl;
  sound = λ v c b e. let k = some-if (d c) c v e in rw (← k.1) (down c b k.0);
}

-- ---- NULL, BOOLEAN

null-sound : (v : Unit {0}) (c : List ℕ) → IsBytes c → null_in c ≡ Some v → IsNull v c
null-sound v [] b e = refl
null-sound v (x ∷ xs) b e = absurd cc

pub null_decides : Decides IsNull null_in
null_decides = record { complete = λ v c h. rw h refl; sound = null-sound }

boolean-complete : (v : Bool) (c : List ℕ) → IsBoolean v c → boolean_in c ≡ Some v
boolean-complete true c h = rw h refl
boolean-complete false c h = rw h refl

octet-sound : (v : Bool) (x : ℕ) (p q : Bool) → nat_eq x 255 ≡ p → nat_eq x 0 ≡ q
    → (if p then Some true else some_if q false) ≡ Some v → (x ∷ []) ≡ boolean_contents v
octet-sound true x true q e f g = ap (λ (y : ℕ). y ∷ []) (eqb-true x 255 e)
octet-sound false x true q e f g = absurd cc
octet-sound true x false true e f g = absurd cc
octet-sound false x false true e f g = ap (λ (y : ℕ). y ∷ []) (eqb-true x 0 f)
octet-sound v x false false e f g = absurd cc

boolean-sound : (v : Bool) (c : List ℕ) → IsBytes c → boolean_in c ≡ Some v → IsBoolean v c
boolean-sound v [] b e = absurd cc
boolean-sound v (x ∷ []) b e = octet-sound v x (nat_eq x 255) (nat_eq x 0) refl refl e
boolean-sound v (x ∷ y ∷ ys) b e = absurd cc

pub boolean_decides : Decides IsBoolean boolean_in
boolean_decides = record { complete = boolean-complete; sound = boolean-sound }

-- ---- INTEGER

octets-of : (c : List ℕ) → IsBytes c → AreOctets c
octets-of [] h = tt
octets-of (x ∷ xs) h = (h 0, octets-of xs (λ i. h (suc i)))

minimal-up : (c : List ℕ) → IsMinimal c → is_minimal c ≡ true
minimal-up [] m = absurd (omega (arith, m.nonempty))
minimal-up (x ∷ []) m = lt-ltb x 128 m.first_bit
minimal-up (x ∷ y ∷ ys) m =
    rw (lt-ltb x 128 m.first_bit) (elim (m.nine_bits (omega arith)) [
      | inl some ↦ rw (lt-ltb 0 x some) refl
      | inr high ↦ rw (lt-ltb 127 y (omega (arith, high))) (or-true (nat_lt 0 x))
    ])

minimal-down : (c : List ℕ) → is_minimal c ≡ true → IsMinimal c
minimal-down [] e = absurd cc
minimal-down (x ∷ []) e =
    record { nonempty = omega arith; first_bit = ltb-true x 128 e; nine_bits = λ long. absurd (omega arith) }
minimal-down (x ∷ y ∷ ys) e =
    let p = and-parts _ _ e in
    record {
      nonempty = omega arith;
      first_bit = ltb-true x 128 p.0;
      nine_bits = λ long. elim (or-parts _ _ p.1) [
        | inl a ↦ inl (ltb-true 0 x a)
        | inr a ↦ inr (ltb-true 127 y a)
      ];
    }

unsigned-down : (n : ℕ) (c : List ℕ) → IsBytes c → is_minimal c ≡ true → number_of c ≡ n → IsUnsigned n c
unsigned-down n c b m e = minimal-IsUnsigned c n (octets-of c b) (sym e) (minimal-down c m)

unsigned-up : (n : ℕ) (c : List ℕ) → IsUnsigned n c → is_minimal c ≡ true
unsigned-up n c h = minimal-up c (minimal-contents n c h)

pub unsigned_decides : Decides IsUnsigned unsigned_in
unsigned_decides = record {
  complete = λ n c h. rw (unsigned-up n c h, h.writes.value) refl;
  sound = λ n c b e. let k = some-if _ _ _ e in unsigned-down n c b k.0 k.1;
}

pub below_decides : (m : ℕ) → Decides (IsUnsignedBelow m) (below_in m)
below_decides m = record {
  complete = λ n c h. rw (unsigned-up n c h.contents, h.contents.writes.value, lt-ltb n m h.below) refl;
  sound = λ n c b e.
      let k = some-if _ _ _ e in
      let p = and-parts _ _ k.0 in
      let low : number_of c < m = ltb-true (number_of c) m p.1 in
      record { below = rw (← k.1) low; contents = unsigned-down n c b p.0 k.1 };
}

pub number_decides : (m : ℕ) → Decides (IsNumber m) (number_in m)
number_decides m = record {
  complete = λ v c h. rw (unsigned-up m c h, h.writes.value, eq-eqb m m refl) refl;
  sound = λ v c b e.
      let k = some-if _ _ _ e in let p = and-parts _ _ k.0 in unsigned-down m c b p.0 (eqb-true _ _ p.1);
}

-- ---- OCTET STRING of a size, PrintableString, one OBJECT IDENTIFIER

pub sized_decides : (n : ℕ) → Decides (IsSized n) (sized_in n)
sized_decides n =
    self_decides (IsSized n) (λ c. nat_eq (length c) n) (λ v c h. h.0) (λ c h. eq-eqb (length c) n h.1)
    (λ c b e. (refl, eqb-true (length c) n e))

pub printable_decides : Decides IsPrintableText printable_in
printable_decides = self_decides IsPrintableText are_printable (λ v c h. h.0) (λ c h. h.1) (λ c b e. (refl, e))

pub only_decides : (o : List ℕ) → Decides (IsOnly o) (only_in o)
only_decides o = record {
  complete = λ v c h. rw (h, (bytes_eq-Decides o o).1 refl) refl;
  sound = λ v c b e. (bytes_eq-Decides c o).0 (some-if _ _ _ e).0;
}

-- ---- OBJECT IDENTIFIER

abbrev Shortest : List ℕ → Type 0
Shortest c = (i : ℕ) → suc i < length c → get_or c i 0 < 128 → get_or c (suc i) 0 ≢ 128

oid-step : (b : Bool) (x : ℕ) (xs : List ℕ) → (b ≡ true → x ≢ 128) → oid_from b (x ∷ xs) ≡ oid_from (nat_lt x 128) xs
oid-step true x xs ne = rw (false_from_ne_true (nat_eq x 128) (λ e. ne refl (eqb-true x 128 e))) refl
oid-step false x xs ne = refl

oid-up : (b : Bool) (x : ℕ) (xs : List ℕ) → (b ≡ true → x ≢ 128) → Shortest (x ∷ xs)
    → get_or (x ∷ xs) (length xs) 0 < 128 → oid_from b (x ∷ xs) ≡ true
oid-up b x [] ne mid last = oid-step b x [] ne ∙ lt-ltb x 128 last
oid-up b x (y ∷ ys) ne mid last =
    oid-step b x (y ∷ ys) ne ∙ oid-up (nat_lt x 128) y ys (λ e. mid 0 (omega arith) (ltb-true x 128 e))
    (λ i lt low. mid (suc i) (omega arith) low) last

oid-first : (b : Bool) (x : ℕ) (xs : List ℕ) → oid_from b (x ∷ xs) ≡ true → b ≡ true → x ≢ 128
oid-first true x xs e f is = let yes = eq-eqb x 128 is in absurd (false≢true (rw yes at e))
oid-first false x xs e f is = absurd (false≢true f)

oid-mid : (b : Bool) (x : ℕ) (xs : List ℕ) → oid_from b (x ∷ xs) ≡ true → Shortest (x ∷ xs)
oid-mid b x [] e i lt low = absurd (omega arith)
oid-mid b x (y ∷ ys) e zero lt low =
    oid-first (nat_lt x 128) y ys (sym (oid-step b x (y ∷ ys) (oid-first b x (y ∷ ys) e)) ∙ e) (lt-ltb x 128 low)
oid-mid b x (y ∷ ys) e (suc i) lt low =
    oid-mid (nat_lt x 128) y ys (sym (oid-step b x (y ∷ ys) (oid-first b x (y ∷ ys) e)) ∙ e) i (omega arith) low

oid-last : (b : Bool) (x : ℕ) (xs : List ℕ) → oid_from b (x ∷ xs) ≡ true → get_or (x ∷ xs) (length xs) 0 < 128
oid-last b x [] e = ltb-true x 128 (sym (oid-step b x [] (oid-first b x [] e)) ∙ e)
oid-last b x (y ∷ ys) e = oid-last (nat_lt x 128) y ys (sym (oid-step b x (y ∷ ys) (oid-first b x (y ∷ ys) e)) ∙ e)

is-oid : (c : List ℕ) → IsOid c → is_oid c ≡ true
is-oid [] h = absurd (omega (arith, h.nonempty))
is-oid (x ∷ xs) h =
    let back : length (x ∷ xs) - 1 ≡ length xs = omega arith in
    oid-up true x xs (λ _. h.first)
    (λ i lt low. let next : i + 1 ≡ suc i = omega arith in rw next at (h.shortest i (omega arith) low))
    (rw back at h.ends)

oid-is : (c : List ℕ) → is_oid c ≡ true → IsOid c
oid-is [] e = absurd cc
oid-is (x ∷ xs) e =
    let back : length (x ∷ xs) - 1 ≡ length xs = omega arith in
    record {
      nonempty = omega arith;
      ends = rw back (oid-last true x xs e);
      first = oid-first true x xs e refl;
      shortest = λ i lt low.
          let next : i + 1 ≡ suc i = omega arith in rw next (oid-mid true x xs e i (omega arith) low);
    }

pub oid_decides : Decides IsOidOf oid_in
oid_decides = self_decides IsOidOf is_oid (λ v c h. h.0) (λ c h. is-oid c h.1) (λ c b e. (refl, oid-is c e))

-- ---- BIT STRING

bits-up : (u : ℕ) (o : List ℕ) → AreBits (bits_of u o) → bits_legal u o ≡ true
bits-up u [] h = eq-eqb u 0 (h.none refl)
bits-up u (x ∷ xs) h = rw (lt-ltb u 8 h.few) (eq-eqb _ 0 h.zero)

bits-down : (u : ℕ) (o : List ℕ) → bits_legal u o ≡ true → AreBits (bits_of u o)
bits-down u [] e =
    let none = eqb-true u 0 e in record { few = omega arith; none = λ _. none; zero = rw none refl }
bits-down u (x ∷ xs) e =
    let p = and-parts _ _ e in
    record { few = ltb-true u 8 p.0; none = λ z. absurd cc; zero = eqb-true _ 0 p.1 }

bits-sound : (v : Bits) (c : List ℕ) → IsBytes c → bits_in c ≡ Some v → IsBits v c
bits-sound v [] b e = absurd cc
bits-sound v (u ∷ o) b e =
    let k = some-if _ _ _ e in rw (← k.1) (record { legal = bits-down u o k.0; contents = refl })

pub bits_decides : Decides IsBits bits_in
bits_decides = record {
  complete = λ v c h. rw (h.contents, bits-up v.unused v.octets h.legal) refl;
  sound = bits-sound;
}

-- ---- UTF8String, IA5String

pub utf8_decides : Decides IsUtf8Text utf8_in
utf8_decides =
    self_decides IsUtf8Text is_utf8 (λ v c h. h.0) (λ c h. is_utf8-from_IsUtf8 c h.1)
    (λ c b e. (refl, IsUtf8-from_is_utf8 c e))

ascii-up : (c : List ℕ) → IsAscii c → list_all (λ x. nat_lt x 128) c ≡ true
ascii-up [] h = refl
ascii-up (x ∷ xs) h = rw (lt-ltb x 128 (h 0)) (ascii-up xs (λ i. h (suc i)))

ascii-down : (c : List ℕ) → list_all (λ x. nat_lt x 128) c ≡ true → IsAscii c
ascii-down [] e i = omega arith
ascii-down (x ∷ xs) e zero = ltb-true x 128 (and-parts _ _ e).0
ascii-down (x ∷ xs) e (suc i) = ascii-down xs (and-parts _ _ e).1 i

pub ia5_decides : Decides IsIa5Text ia5_in
ia5_decides =
    self_decides IsIa5Text (list_all (λ x. nat_lt x 128)) (λ v c h. h.0) (λ c h. ascii-up c h.1)
    (λ c b e. (refl, ascii-down c e))
