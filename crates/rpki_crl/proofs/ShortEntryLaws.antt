-- Entries whose headers are two octets each.
use Rattle.std.proofs.Common.{◌≡◌, ◌≤◌, ◌∙◌, ℕ, false, List, [], ◌∷◌, length, get_or, Fits, w8, inl, refl, sym}
use Rattle.std.proofs.Common.{subst, append-nil, arith}
use Rattle.jiff.specs.Types.{DateTime}
use Rattle.rpki_der.specs.Number.{number_of}
use Rattle.rpki_der.specs.Integer.{IsMinimal}
use Rattle.rpki_der.specs.Prelude.{sequence, integer, utc_time, Accepts, Spells, SpellsContents, Format, leaf, only}
use Rattle.rpki_der.specs.Prelude.{then}
use Rattle.rpki_der.proofs.IntegerLaws.{minimal-IsUnsigned, octets-fit, one-number}
use Rattle.rpki_der.proofs.OneFormatLaws.{IsLawful, leaf-lawful, only-lawful, then-lawful, around-lawful}
use Rattle.rpki_time.specs.Serial.{IsSerialContents}
use Rattle.rpki_time.specs.TimeText.{ReadsAsUtc}
use Rattle.rpki_time.specs.TimeValue.{SpellsTime}
use Rattle.rpki_time.proofs.TimeValueLaws.{time-there}
use Rattle.rpki_x509.specs.Short.{IsShort}
use Rattle.rpki_x509.proofs.ShortLaws.{short-sequence, short-integer, short-utc}
use Rattle.rpki_crl.specs.Crl.{Entry, entry}

-- ---- there is one entry at the front of octets

-- a time, whatever is wrong of other octets
abbrev any_time : Format DateTime
any_time = record { spells = SpellsTime; fault = λ s e. ⊥ }

time-lawful : IsLawful any_time
time-lawful = record {
  one = λ s t u r q g h.
      let is = (time-there s t r g).only u q h in
      (sym is.0, sym is.1);
  sound = λ s t r e n g k. k;
  same = λ s d e m n k l. absurd k;
}

abbrev numbers : Format ℕ
numbers = leaf integer IsSerialContents

entry-one : (s : List ℕ) (x y : Entry) (r q : List ℕ) → Spells entry.spells s x r → Spells entry.spells s y q
    → (x ≡ y) × (r ≡ q)
entry-one =
    (around-lawful sequence (then numbers (only any_time))
    (then-lawful numbers (only any_time) (leaf-lawful integer IsSerialContents (λ c m n g h. one-number m n c g.0 h.0))
    (only-lawful any_time time-lawful))).one

-- ---- a serial number and UTC time in a SEQUENCE

pub serial_there : (c : List ℕ) → ((k : ℕ) → Fits w8 (get_or c k 0)) → IsMinimal c → length c ≤ 20
    → (n : ℕ) × IsSerialContents n c
serial_there c fits minimal few =
    (number_of c, (minimal-IsUnsigned c (number_of c) (octets-fit c fits) refl minimal, few))

empty : (xs : List ℕ) → length xs ≤ 0 → xs ≡ []
empty [] few = refl
empty (x ∷ xs) few = absurd (omega (arith, few))

module _ (s parts rest number behind text end : List ℕ) (outer : IsShort 48 s parts rest)
    (first : IsShort 2 parts number behind) (second : IsShort 23 behind text end) where
  pub entry-there : length end ≤ 0 → (n : ℕ) → IsSerialContents n number → (t : DateTime) → ReadsAsUtc text t
      → (x : Entry) × Accepts entry.spells s x rest
  entry-there none n serial t reads =
      let o = short-sequence s parts rest outer in
      let i = short-integer parts number behind first in
      let u = short-utc behind text [] (subst (IsShort 23 behind text) (empty end none) second) in
      let x : Entry = (n, t) in
      let spelled : Spells entry.spells s x rest = record {
        front = o.front;
        parts = o.parts;
        spelled = record {
          contents = parts;
          value = o.spelled;
          spelled = record {
            first = i.front;
            second = behind;
            parts = i.parts;
            one = record {
              contents = number;
              value = i.spelled;
              spelled = serial;
            };
            two = record {
              tag = utc_time;
              text = text;
              value = subst (λ (z : List ℕ). SpellsContents utc_time false text z)
                  (sym (u.parts ∙ append-nil u.front)) u.spelled;
              reads = inl (refl, reads);
            };
          };
        };
      } in
      (x, record { spells = spelled; only = λ y q k. entry-one s y x q rest k spelled })
