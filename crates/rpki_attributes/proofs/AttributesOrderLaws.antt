-- The order of signed attributes that are written: by the octets, which their lengths decide, and else their types.
use Rattle.std.proofs.Common.{◌≡◌, ◌≤◌, ◌<◌, ◌+◌, ◌*◌, ◌^◌, ◌/◌, ◌%◌, ℕ, zero, suc, Bool, true, false, List, [], ◌∷◌}
use Rattle.std.proofs.Common.{◌++◌}
use Rattle.std.proofs.Common.{length, refl, ap, ◌∙◌, arith, lit<, inl, inr, length-append}
use Rattle.std.proofs.lemmas.Bool.{cases_lt, lt-ltb, le-ltb, ne_eqb, eq-eqb}
use Rattle.jiff.specs.Types.{DateTime}
use Rattle.rpki_der.specs.Prelude.{sequence, set, oid, octet_string, integer, tlv, power}
use Rattle.rpki_der.specs.Header.{digits, identifier_octets, length_octets}
use Rattle.rpki_der.proofs.EncodeLaws.{tlv-at-least}
use Rattle.rpki_der.proofs.LengthLaws.{len-short, len-long}
use Rattle.rpki_time.specs.Serial.{contents_within, serial_contents, serial_octets}
use Rattle.rpki_time.specs.TimeText.{utc_text, generalized_text, is_utc_year}
use Rattle.rpki_der.specs.Prelude.{utc_time, generalized_time}
use Rattle.rpki_time.specs.TimeValue.{utc_octets, generalized_octets, octets_where, time_octets}
use Rattle.rpki_time.proofs.ReadBackLaws.{tlv-short}
use Rattle.rpki_attributes.specs.SignedAttributes.{Attribute, content_type, message_digest, signing_time}
use Rattle.rpki_attributes.specs.SignedAttributes.{binary_signing_time}
use Rattle.rpki_attributes.specs.EncodedAttributes.{attribute_octets, digest_attribute, time_attribute}
use Rattle.rpki_attributes.specs.EncodedAttributes.{binary_attribute, comes_before}

-- the contents octets of an attribute
abbrev pub inside : Attribute → List ℕ
inside x = tlv oid false x.0 ++ tlv set true x.1

-- ---- lengths decide

module _ (m n : ℕ) (a b : List ℕ) where
  lengths-below : m < n → m < 128 → comes_before (length_octets m ++ a) (length_octets n ++ b) ≡ true
  lengths-below less short = elim (cases_lt n 128) [
    | inl s ↦ rw (len-short m short, len-short n s, lt-ltb m n less) refl
    | inr l ↦
        let k = 128 + length (digits 256 0 4 n) in
        let more : m < k = omega (arith, short) in
        rw (len-short m short, len-long n l, lt-ltb m k more) refl
  ]

  lengths-above : n < m → n < 128 → comes_before (length_octets m ++ a) (length_octets n ++ b) ≡ false
  lengths-above less short = elim (cases_lt m 128) [
    | inl s ↦
        let ge : n ≤ m = omega (arith, less) in
        let ne : m ≡ n → ⊥ = λ e. omega (arith, less, e) in
        rw (len-short m s, len-short n short, le-ltb m n ge, ne_eqb m n ne) refl
    | inr l ↦
        let k = 128 + length (digits 256 0 4 m) in
        let ge : n ≤ k = omega (arith, short) in
        let ne : k ≡ n → ⊥ = λ e. omega (arith, short, e) in
        rw (len-long m l, len-short n short, le-ltb k n ge, ne_eqb k n ne) refl
  ]

lengths-same : (n : ℕ) (a b : List ℕ) → n < 128
    → comes_before (length_octets n ++ a) (length_octets n ++ b) ≡ comes_before a b
lengths-same n a b short =
    let ge : n ≤ n = omega arith in rw (len-short n short, le-ltb n n ge, eq-eqb n n refl) refl

-- after the one octet of the tag
behind-tag : (a b : List ℕ)
    → comes_before (tlv sequence true a) (tlv sequence true b)
    ≡ comes_before (length_octets (length a) ++ a) (length_octets (length b) ++ b)
unfolding identifier_octets
behind-tag a b = refl

module _ (x y : List ℕ) (short : length y < 128) where
  size : length (tlv sequence true y) ≡ 2 + length y
  size = tlv-short sequence true y (lit< tt) short

  pub longer-is-behind : length (tlv sequence true y) < length (tlv sequence true x)
      → comes_before (tlv sequence true x) (tlv sequence true y) ≡ false
  longer-is-behind less =
      let below : length y < length x = elim (cases_lt (length x) 128) [
        | inl s ↦ omega (arith, size, less, tlv-short sequence true x (lit< tt) s)
        | inr l ↦ omega (arith, short, l)
      ] in
      behind-tag x y ∙ lengths-above (length x) (length y) x y below short

  pub no-longer-is-before : (length (tlv sequence true y) < length (tlv sequence true x) → ⊥)
      → comes_before x y ≡ true → comes_before (tlv sequence true x) (tlv sequence true y) ≡ true
  no-longer-is-before none tie =
      let within : length x ≤ length y = elim (cases_lt (length (tlv sequence true y)) (length (tlv sequence true x))) [
        | inl less ↦ absurd (none less)
        | inr ge ↦ omega (arith, size, ge, tlv-at-least sequence true x)
      ] in
      elim (cases_lt (length x) (length y)) [
        | inl less ↦
            let low : length x < 128 = omega (arith, short, less) in
            behind-tag x y ∙ lengths-below (length x) (length y) x y less low
        | inr ge ↦
            let same : length x ≡ length y = omega (arith, within, ge) in
            let step : comes_before (length_octets (length x) ++ x) (length_octets (length y) ++ y)
            ≡ comes_before x y = rw same (lengths-same (length y) x y short) in
            behind-tag x y ∙ (step ∙ tie)
      ]

  pub shorter-is-before : length x < length y
      → comes_before (tlv sequence true x) (tlv sequence true y) ≡ true
  shorter-is-before less =
      let low : length x < 128 = omega (arith, short, less) in
      behind-tag x y ∙ lengths-below (length x) (length y) x y less low

-- ---- types decide where lengths are equal

pub type-before-digest : (a b : List ℕ) → comes_before (inside (content_type, a)) (inside (message_digest, b)) ≡ true
unfolding identifier_octets length_octets
type-before-digest a b = refl

pub type-before-time : (a b : List ℕ) → comes_before (inside (content_type, a)) (inside (signing_time, b)) ≡ true
unfolding identifier_octets length_octets
type-before-time a b = refl

pub type-before-binary : (a b : List ℕ)
    → comes_before (inside (content_type, a)) (inside (binary_signing_time, b)) ≡ true
unfolding identifier_octets length_octets
type-before-binary a b = refl

-- ---- how many octets

pub inside-size : (x : Attribute) → length x.0 < 100 → length x.1 < 100
    → length (inside x) ≡ 4 + (length x.0 + length x.1)
inside-size x a b =
    let one = tlv-short oid false x.0 (lit< tt) (omega (arith, a)) in
    let two = tlv-short set true x.1 (lit< tt) (omega (arith, b)) in
    omega (arith, one, two, length-append (tlv oid false x.0) (tlv set true x.1))

time-where : (utc : Bool) (t : DateTime) → (15 ≤ length (octets_where utc t)) × (length (octets_where utc t) ≤ 17)
time-where true t = let size : length (utc_octets t) ≡ 2 + 13 =
    tlv-short utc_time false (utc_text t) (lit< tt) (lit< tt)
    in (omega arith, omega arith)
time-where false t = let size : length (generalized_octets t) ≡ 2 + 15 = tlv-short generalized_time false
    (generalized_text t) (lit< tt) (lit< tt) in (omega arith, omega arith)

pub time-size : (t : DateTime) → (15 ≤ length (time_octets t)) × (length (time_octets t) ≤ 17)
time-size t = time-where (is_utc_year t.date.year) t

-- the INTEGER of a number has few octets
length-end : (xs : List ℕ) (x : ℕ) → length (xs ++ x ∷ []) ≡ suc (length xs)
length-end [] x = refl
length-end (y ∷ ys) x = ap suc (length-end ys x)

number-within : (k j n : ℕ) → n < 128 * 256 ^ j → length (contents_within k n) ≤ j + 1
unfolding contents_within
number-within zero j n h = omega arith
number-within (suc k) zero n h =
    let le : n < 128 = omega (arith, h) in rw (lt-ltb n 128 le) (omega arith)
number-within (suc k) (suc j) n h = elim (cases_lt n 128) [
  | inl lt ↦ rw (lt-ltb n 128 lt) (omega arith)
  | inr ge ↦
      let p = power j in
      let part : n / 256 < 128 * 256 ^ j = omega arith in
      rw (le-ltb n 128 ge)
      (omega (arith, length-end (contents_within k (n / 256)) (n % 256), number-within k j (n / 256) part))
]

pub seconds-few : (n : ℕ) → n < 2 ^ 64 → length (serial_contents n) ≤ 9
seconds-few n h =
    let more : n < 128 * 256 ^ 8 = omega (arith, h) in number-within 20 8 n more

pub binary-size : (n : ℕ) → n < 2 ^ 64 → length (serial_octets n) ≤ 11
binary-size n h =
    let few = seconds-few n h in
    let size = tlv-short integer false (serial_contents n) (lit< tt) (omega (arith, few)) in
    omega (arith, few, size)

pub digest-size : (d : List ℕ) → length d ≡ 32 → length (tlv octet_string false d) ≡ 34
digest-size d h =
    let size = tlv-short octet_string false d (lit< tt) (omega (arith, h)) in omega (arith, h, size)

pub digest-inside : (d : List ℕ) → length d ≡ 32 → length (inside (digest_attribute d)) ≡ 47
digest-inside d h =
    let value = digest-size d h in
    let all = inside-size (digest_attribute d) (lit< tt) (omega (arith, value)) in omega (arith, value, all)

pub time-inside : (t : DateTime) → (28 ≤ length (inside (time_attribute t))) × (length (inside (time_attribute t)) ≤ 30)
time-inside t =
    let value = time-size t in
    let all = inside-size (time_attribute t) (lit< tt) (omega (arith, value.1)) in
    (omega (arith, value.0, all), omega (arith, value.1, all))

pub binary-inside : (n : ℕ) → n < 2 ^ 64 → length (inside (binary_attribute n)) ≤ 26
binary-inside n h =
    let value = binary-size n h in
    let all = inside-size (binary_attribute n) (lit< tt) (omega (arith, value)) in omega (arith, value, all)

-- ---- the others are in order

pub time-before-digest : (t : DateTime) (d : List ℕ) → length d ≡ 32
    → comes_before (attribute_octets (time_attribute t)) (attribute_octets (digest_attribute d)) ≡ true
time-before-digest t d h =
    let one = time-inside t in
    let two = digest-inside d h in
    shorter-is-before (inside (time_attribute t)) (inside (digest_attribute d)) (omega (arith, two))
    (omega (arith, one.1, two))

pub binary-before-digest : (n : ℕ) (d : List ℕ) → n < 2 ^ 64 → length d ≡ 32
    → comes_before (attribute_octets (binary_attribute n)) (attribute_octets (digest_attribute d)) ≡ true
binary-before-digest n d few h =
    let one = binary-inside n few in
    let two = digest-inside d h in
    shorter-is-before (inside (binary_attribute n)) (inside (digest_attribute d)) (omega (arith, two))
    (omega (arith, one, two))

pub binary-before-time : (n : ℕ) (t : DateTime) → n < 2 ^ 64
    → comes_before (attribute_octets (binary_attribute n)) (attribute_octets (time_attribute t)) ≡ true
binary-before-time n t few =
    let one = binary-inside n few in
    let two = time-inside t in
    shorter-is-before (inside (binary_attribute n)) (inside (time_attribute t)) (omega (arith, two.1))
    (omega (arith, one, two.0))
