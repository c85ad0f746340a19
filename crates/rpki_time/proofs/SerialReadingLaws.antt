-- A serial number in a non-negative INTEGER.
use Rattle.std.proofs.Common.{◌≤◌, ◌+◌, ◌≡◌, ◌↔◌, ℕ, ◌<◌, ◌^◌, false, List, [], ◌++◌, length, Result, Ok, Err, IfOk}
use Rattle.std.proofs.Common.{lit<, refl, sym, ap, subst, ◌∙◌, arith}
use Rattle.std.specs.Prelude.{codes}
use Rattle.rpki_der.specs.declared.error.ContentError.{ContentError}
use Rattle.rpki_der.specs.declared.error.DecodeError.{DecodeError}
use Rattle.rpki_der.specs.declared.error.DecodeError.TheVariants.{Truncated, BadTag, BadLength, Unexpected, Content}
use Rattle.rpki_der.specs.declared.error.DecodeError.TheVariants.{Trailing, OutOfMemory}
use Rattle.rpki_der.specs.Prelude.{text_of, IsTag, integer, tlv, number_of, IsUnsigned, IsMagnitude, Spells, Accepts}
use Rattle.rpki_der.specs.Prelude.{Refusal, Reads, SpellsLeaf, IsLeafFault}
use Rattle.rpki_der.proofs.ReadingLaws.{UnlessMemory-weaker}
use Rattle.rpki_der.proofs.LeavesLaws.{other-contents}
use Rattle.rpki_der.proofs.EncodeLaws.{tlv-legal, tlv-same}
use Rattle.rpki_der.proofs.IntegerLaws.{one-number, contents-unique}
use Rattle.rpki_time.specs.declared.serial.SerialSliceError.{SerialSliceError}
use Rattle.rpki_time.specs.declared.serial.SerialSliceError.TheVariants.{Empty, Long}
use Rattle.rpki_time.specs.Serial.{IsLong, IsSerialContents, SpellsSerial, TellsLong, IsSerialFault, serial_contents}
use Rattle.rpki_time.specs.Serial.{serial_octets}
use Rattle.rpki_time.proofs.ReadBackLaws.{leaf-there, reads-back, tlv-short}
use Rattle.rpki_time.proofs.WritingLaws.{serial_contents-are, serial_contents-few}
use Rattle.rpki_time.proofs.SerialLaws.{serial-short, short-below, long-above, not-long}

abbrev SpellsUnsigned : ℕ → List ℕ → Type 0
SpellsUnsigned = SpellsLeaf integer false IsUnsigned

abbrev IsUnsignedFault : List ℕ → DecodeError → Type 0
IsUnsignedFault = IsLeafFault integer false IsUnsigned

-- the INTEGER of a serial number is a non-negative one
is-unsigned : (s : List ℕ) (n : ℕ) (r : List ℕ) → Spells SpellsSerial s n r → Spells SpellsUnsigned s n r
is-unsigned s n r k = record {
  front = k.front;
  parts = k.parts;
  spelled = record
      { contents = k.spelled.contents; value = k.spelled.value; spelled = k.spelled.spelled.0 };
}

-- and one of a number below 2 ^ 159 is that of a serial number
is-serial : (s : List ℕ) (n : ℕ) (r : List ℕ) → n < 2 ^ 159 → Spells SpellsUnsigned s n r → Spells SpellsSerial s n r
is-serial s n r small k = record {
  front = k.front;
  parts = k.parts;
  spelled = record {
    contents = k.spelled.contents;
    value = k.spelled.value;
    spelled = serial-short n k.spelled.contents
        k.spelled.spelled small;
  };
}

tells-nothing : (s q : List ℕ) (e : DecodeError) → Refusal SpellsUnsigned IsUnsignedFault s q e → TellsLong s e
tells-nothing s q Truncated h = tt
tells-nothing s q BadTag h = tt
tells-nothing s q BadLength h = tt
tells-nothing s q Unexpected h = tt
tells-nothing s q (Content x) h = λ n r k. absurd (h.refuses n r k)
tells-nothing s q Trailing h = tt
tells-nothing s q OutOfMemory h = tt

-- there is no INTEGER, or it is negative
pub unsigned-refused : (s q : List ℕ) (e : DecodeError) → Refusal SpellsUnsigned IsUnsignedFault s q e
    → Refusal SpellsSerial IsSerialFault s s e
unsigned-refused s q e h = record {
  unchanged = refl;
  refuses = UnlessMemory-weaker e (λ none n r k. none n r (is-unsigned s n r k)) h.refuses;
  kind = (
    other-contents integer false IsUnsigned IsSerialContents s e (λ n c k. (n, k.0)) h.kind,
    tells-nothing s q e h,
  );
}

-- its octets are not too long
pub serial-accepted : (s r octets : List ℕ) (n : ℕ) → Accepts SpellsUnsigned s (number_of octets) r → IsMagnitude octets
    → (IsLong octets → ⊥) → n ≡ number_of octets → Accepts SpellsSerial s n r
serial-accepted s r octets n a m short e =
    let small : n < 2 ^ 159 = rw e (not-long octets m.each short) in
    record {
      spells = is-serial s n r small (subst (λ (k : ℕ). Spells SpellsUnsigned s k r) (sym e) a.spells);
      only = λ k q h. let o = a.only k q (is-unsigned s k q h) in (o.0 ∙ sym e, o.1);
    }

-- its octets are too long
pub serial-too-long : (s r octets : List ℕ) (x : ContentError) → Accepts SpellsUnsigned s (number_of octets) r
    → IsMagnitude octets → IsLong octets → text_of x ≡ codes "serial number longer than 20 bytes"
    → Refusal SpellsSerial IsSerialFault s s (Content x)
serial-too-long s r octets x a m long text =
    let large = long-above octets m long in
    let c = a.spells.spelled.contents in
    let none : (n : ℕ) → IsSerialContents n c → ⊥ = λ n k.
    let small = short-below n c k.0 k.1 in
    let same = one-number n (number_of octets) c k.0 a.spells.spelled.spelled in
    omega arith in
    record {
      unchanged = refl;
      refuses = λ n q k.
          let small = short-below n k.spelled.contents k.spelled.spelled.0 k.spelled.spelled.1 in
          let same = (a.only n q (is-unsigned s n q k)).0 in
          omega arith;
      kind = (
        (c, r, record { front = a.spells.front; parts = a.spells.parts; spelled = a.spells.spelled.value }, none),
        λ n q k. text,
      );
    }

-- of the two reasons that octets are no serial number, a number that was read has the second
pub refused-long : (e : SerialSliceError) (octets : List ℕ)
    → (let r : Result ℕ SerialSliceError = Err e in (r ≡ Err Empty) ↔ (octets ≡ []))
    → (let r : Result ℕ SerialSliceError = Err e in (r ≡ Err Long) ↔ IsLong octets) → IsMagnitude octets
    → (e ≡ Long) × IsLong octets
refused-long Empty octets empty long m = absurd (let none = ap length (empty.0 refl) in omega (arith, m.nonempty))
refused-long Long octets empty long m = (refl, long.0 refl)

-- ---- what is written

integer-legal : IsTag integer
integer-legal = record { below = lit< tt; named = λ _. lit< tt }

written-few : (n : ℕ) → length (serial_contents n) < 2 ^ 32
written-few n = let few = serial_contents-few n in omega arith

pub serial-few : (n : ℕ) → length (serial_octets n) ≤ 22
serial-few n =
    let few = serial_contents-few n in
    let size : length (serial_octets n) ≡ 2 + length (serial_contents n) = tlv-short integer false (serial_contents n)
    (lit< tt) (omega arith) in
    omega arith

pub serial-spelled : (n : ℕ) → n < 2 ^ 159 → SpellsSerial n (serial_octets n)
serial-spelled n small = record {
  contents = serial_contents n;
  value = tlv-legal integer false (serial_contents n) integer-legal (written-few n);
  spelled = serial-short n (serial_contents n) (serial_contents-are n small) small;
}

-- what is spelled is what is written
spelled-so : (n : ℕ) (p : List ℕ) → SpellsSerial n p → p ≡ serial_octets n
spelled-so n p h =
    let small = short-below n h.contents h.spelled.0 h.spelled.1 in
    h.value.octets ∙ ap (tlv integer false)
    (contents-unique n h.contents (serial_contents n) h.spelled.0 (serial_contents-are n small))

pub serial-read_back : (s r : List ℕ) (x : Result ℕ DecodeError) (n : ℕ) (rest : List ℕ) → n < 2 ^ 159
    → s ≡ serial_octets n ++ rest → Reads (λ m. m) SpellsSerial IsSerialFault s r x → (x ≡ Ok n) × (r ≡ rest)
serial-read_back s r x n rest small e h =
    let k : Spells SpellsSerial s n rest = record
    { front = serial_octets n; parts = e; spelled = serial-spelled n small } in
    let one : (m : ℕ) → IsSerialContents m k.spelled.contents
    → m ≡ n = λ m j. one-number m n k.spelled.contents j.0 k.spelled.spelled.0 in
    reads-back SpellsSerial IsSerialFault s r x n rest (λ never. never.0) h
    (leaf-there integer false IsSerialContents s n rest k one)

pub serial-same-octets : (s r : List ℕ) (x : Result ℕ DecodeError) → Reads (λ m. m) SpellsSerial IsSerialFault s r x
    → IfOk x (λ n. s ≡ serial_octets n ++ r)
serial-same-octets s r (Ok n) h =
    h.spells.parts ∙ ap (λ (p : List ℕ). p ++ r) (spelled-so n h.spells.front h.spells.spelled)
serial-same-octets s r (Err e) h = tt

pub serial-same : (m n : ℕ) → m < 2 ^ 159 → n < 2 ^ 159 → (serial_octets m ≡ serial_octets n) ↔ (m ≡ n)
serial-same m n small small' = (
  λ e.
      let same : serial_contents m ≡ serial_contents n = tlv-same integer false (serial_contents m) (serial_contents n)
      (written-few m) (written-few n) e in
      one-number m n (serial_contents n) (subst (IsUnsigned m) same (serial_contents-are m small))
      (serial_contents-are n small'),
  λ e. ap serial_octets e,
)
