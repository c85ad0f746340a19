-- The entries that octets are: no others, and those of the list that they are read from.
use Rattle.std.proofs.Common.{◌≡◌, ◌∙◌, ◌++◌, ◌<◌, ◌≤◌, ℕ, Bool, Ok, List, [], ◌∷◌, refl, sym, ap, subst, arith}
use Rattle.jiff.specs.Types.{DateTime}
use Rattle.rpki_der.specs.Prelude.{sequence, integer, Spells, Format, leaf, only, then}
use Rattle.rpki_der.proofs.IntegerLaws.{one-number}
use Rattle.rpki_der.proofs.OneFormatLaws.{IsLawful, leaf-lawful, only-lawful, then-lawful, around-lawful}
use Rattle.rpki_time.specs.Serial.{IsSerialContents}
use Rattle.rpki_time.specs.TimeValue.{SpellsTime}
use Rattle.rpki_time.proofs.TimeValueLaws.{time-there}
use Rattle.rpki_crl.specs.Crl.{Entry, entry, each_entry, is_revoked}
use Rattle.rpki_crl.specs.CrlView.{FindsSerial}
use Rattle.rpki_crl.proofs.EntriesLaws.{nowhere}

-- a time, whatever is wrong of other octets
abbrev any_time : Format DateTime
any_time = record { spells = SpellsTime; fault = λ s e. ⊥ }

time-lawful : IsLawful any_time
time-lawful = record {
  one = λ s t u r q g h.
      let is = (time-there s t r g).only u q h in
      (sym is.0, sym is.1);
  sound = λ s t r e n g k. k;
  same = λ s d e m n k l. absurd k;
}

abbrev numbers : Format ℕ
numbers = leaf integer IsSerialContents

entry-one : (s : List ℕ) (x y : Entry) (r q : List ℕ) → Spells entry.spells s x r → Spells entry.spells s y q
    → (x ≡ y) × (r ≡ q)
entry-one =
    (around-lawful sequence (then numbers (only any_time))
    (then-lawful numbers (only any_time) (leaf-lawful integer IsSerialContents (λ c m n g h. one-number m n c g.0 h.0))
    (only-lawful any_time time-lawful))).one

no-entry : (x : Entry) (r p : List ℕ) → [] ≡ p ++ r → entry.spells x p → ⊥
no-entry x r [] parts h = nowhere x h
no-entry x r (y ∷ ys) parts h = absurd (cc)

pub entries-one : (xs ys : List Entry) (s : List ℕ) → each_entry.spells xs s → each_entry.spells ys s → xs ≡ ys
entries-one [] [] s h k = refl
entries-one [] (y ∷ ys) s h k =
    let (r, front, more) = k in
    absurd (no-entry y r front.front (sym h ∙ front.parts) front.spelled)
entries-one (x ∷ xs) [] s h k =
    let (r, front, more) = h in
    absurd (no-entry x r front.front (sym k ∙ front.parts) front.spelled)
entries-one (x ∷ xs) (y ∷ ys) s h k =
    let is = entry-one s x y h.0 k.0 h.1 k.1 in
    let more = entries-one xs ys h.0 h.2 (subst (each_entry.spells ys) (sym is.1) k.2) in
    ap (λ (z : Entry). z ∷ xs) is.0 ∙ ap (λ (zs : List Entry). y ∷ zs) more

-- what a search of octets found is so of the entries that they are
pub told : (n m : ℕ) (found b : Bool) (s : List ℕ) → FindsSerial n s (Ok found) → n ≡ m → found ≡ b
    → (ys : List Entry) → each_entry.spells ys s → is_revoked m ys ≡ b
told n m found b s h number is ys k =
    let (xs, spelled, same) = h in
    ap (λ (l : ℕ). is_revoked l ys) (sym number) ∙ ap (is_revoked n) (sym (entries-one xs ys s spelled k)) ∙ sym same
    ∙ is

pub not-few : (n : ℕ) → (n < 128 → ⊥) → 128 ≤ n
not-few n h = omega (arith, h)
