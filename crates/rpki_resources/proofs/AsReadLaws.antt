-- Texts of AS numbers and of blocks of them, as they are read.
use Rattle.std.proofs.Common.{◌≡◌, ◌≢◌, ◌≤◌, ◌<◌, ◌⊎◌, inl, inr, ℕ, zero, suc, List, [], ◌∷◌, ◌++◌, length, get_or}
use Rattle.std.proofs.Common.{refl, sym, ap, ◌∙◌, subst, arith}
use Rattle.std.specs.Option.{option_map}
use denote.Ref.{Bor}
use Rattle.rpki_resources.proofs.BlocksLaws.{split}
use Rattle.std.specs.Prelude.{◌^◌, decimal, Option, MatchOption, Some, None, Result, Ok, Err, MatchResult}
use Rattle.std.proofs.lemmas.Bool.Decides.{eqb_tells}
use Rattle.std.specs.Str.Parse.{AllDigits, without_leading_plus}
use Rattle.std.proofs.lemmas.Str.Parse.{digit_at, without_leading_plus_none}
use Rattle.std.proofs.lemmas.Fmt.{decimal_is_IsNumeral}
use Rattle.rpki_resources.specs.declared.as_text.Asn.{Asn}
use Rattle.rpki_resources.specs.declared.as_text.AsBlock.{AsBlock}
use Rattle.rpki_resources.specs.declared.as_text.AsBlock.TheVariants.{Id, Range}
use Rattle.rpki_resources.specs.declared.block.Block.{Block}
use Rattle.rpki_resources.specs.declared.as_read.ParseAsBlockError.{ParseAsBlockError}
use Rattle.rpki_resources.specs.declared.as_read.ParseAsBlockError.TheVariants.{BadAsn, BadRange}
use Rattle.rpki_resources.specs.Text.{as_number_text, as_block_text, IsAsBlockOf}
use Rattle.rpki_resources.specs.AsRead.{after_letter, or_else, after_s, without_as, IsAsnText, IsAsRangeText}
use Rattle.rpki_resources.specs.AsRead.{IsAsRangeError, IsAsBlockText, IsAsBlockError}

-- ---- letters

letter-tells : (u l c : ℕ) (rest : List ℕ) → ((after_letter u l (c ∷ rest) ≡ Some rest) × ((c ≡ u) ⊎ (c ≡ l)))
    ⊎ ((after_letter u l (c ∷ rest) ≡ None) × (c ≢ u) × (c ≢ l))
letter-tells u l c rest = elim (eqb_tells c u) [
  | inl h ↦ inl (rw h.0 refl, inl h.1)
  | inr h ↦ (elim (eqb_tells c l) [
    | inl k ↦ inl (rw (h.0, k.0) refl, inr k.1)
    | inr k ↦ inr (rw (h.0, k.0) refl, h.1, k.1)
  ])
]

pub after-lower : (u l : ℕ) (text rest : List ℕ) → text ≡ l ∷ rest → after_letter u l text ≡ Some rest
after-lower u l text rest e = rw e (elim (letter-tells u l l rest) [ inl h ↦ h.0 | inr h ↦ absurd (h.2 refl) ])

pub after-none : (u l : ℕ) (text : List ℕ) → ((rest : List ℕ) → text ≢ u ∷ rest) → ((rest : List ℕ) → text ≢ l ∷ rest)
    → after_letter u l text ≡ None
after-none u l [] g h = refl
after-none u l (c ∷ rest) g h = elim (letter-tells u l c rest) [
  | inl k ↦ (elim k.1 [
    | inl e ↦ absurd (g rest (ap (λ (n : ℕ). n ∷ rest) e))
    | inr e ↦ absurd (h rest (ap (λ (n : ℕ). n ∷ rest) e))
  ])
  | inr k ↦ k.0
]

-- what `strip_prefix` says of the other letter
pub last-letter : (u l : ℕ) (text : List ℕ) (r : Option (Bor (List ℕ))) → ((rest : List ℕ) → text ≢ u ∷ rest)
    → MatchOption r ((rest : List ℕ) → text ≢ l ∷ rest) (λ x. text ≡ l ∷ x.now)
    → option_map (λ t. t.now) r ≡ after_letter u l text
last-letter u l text None g h = sym (after-none u l text g h)
last-letter u l text (Some x) g h = sym (after-lower u l text x.now h)

-- ---- a text of a number has no hyphen

abbrev pub IsPlain : List ℕ → Type 0
IsPlain text = (i : ℕ) → i < length text → get_or text i 0 ≢ 45

digits-plain : (ds : List ℕ) → AllDigits 10 ds → IsPlain ds
digits-plain ds h i lt e = let within = digit_at ds i h lt in absurd (omega (arith, within, e))

cons-plain : (c : ℕ) (rest : List ℕ) → c ≢ 45 → IsPlain rest → IsPlain (c ∷ rest)
cons-plain c rest other h zero lt e = other e
cons-plain c rest other h (suc i) lt e = h i (omega arith) e

pub plus-plain : (text : List ℕ) → AllDigits 10 (without_leading_plus text) → IsPlain text
plus-plain [] h = λ i lt e. absurd (omega arith)
plus-plain (c ∷ rest) h = elim (eqb_tells c 43) [
  | inl k ↦ cons-plain c rest (λ e. absurd (omega (arith, k.1, e))) (digits-plain rest (rw k.0 at h))
  | inr k ↦ digits-plain (c ∷ rest) (rw k.0 at h)
]

letter-plain : (c u l : ℕ) → 46 ≤ u → 46 ≤ l → ((c ≡ u) ⊎ (c ≡ l)) → c ≢ 45
letter-plain c u l g h (inl e) k = absurd (omega arith)
letter-plain c u l g h (inr e) k = absurd (omega arith)

as-plain : (text : List ℕ) → AllDigits 10 (without_leading_plus (without_as text)) → IsPlain text
as-plain [] h = plus-plain [] h
as-plain (a ∷ rest) h = elim (letter-tells 65 97 a rest) [
  | inl k ↦ second rest k.1 (rw k.0 at h)
  | inr k ↦ plus-plain (a ∷ rest) (rw k.0 at h)
] where
  second : (rest : List ℕ) → ((a ≡ 65) ⊎ (a ≡ 97))
      → AllDigits 10 (without_leading_plus (or_else (after_s (Some rest)) (a ∷ rest))) → IsPlain (a ∷ rest)
  second [] e h = plus-plain (a ∷ []) h
  second (s ∷ more) e h = elim (letter-tells 83 115 s more) [
    | inl k ↦ cons-plain a (s ∷ more) (letter-plain a 65 97 (omega arith) (omega arith) e)
        (cons-plain s more (letter-plain s 83 115 (omega arith) (omega arith) k.1) (plus-plain more (rw k.0 at h)))
    | inr k ↦ plus-plain (a ∷ s ∷ more) (rw k.0 at h)
  ]

pub number-plain : (text : List ℕ) (a : Asn) → IsAsnText text a → IsPlain text
number-plain text a h = as-plain text h.digits.1

-- ---- two texts with a hyphen between them

pub not-plain : (low high : List ℕ) → IsPlain (low ++ 45 ∷ high) → ⊥
not-plain [] high h = h 0 (omega arith) refl
not-plain (c ∷ low) high h = not-plain low high (λ i lt e. h (suc i) (omega (arith, lt)) e)

rest-plain : (c : ℕ) (rest : List ℕ) → IsPlain (c ∷ rest) → IsPlain rest
rest-plain c rest h i lt e = h (suc i) (omega (arith, lt)) e

pub one-split : (xs ys us vs : List ℕ) → xs ++ 45 ∷ ys ≡ us ++ 45 ∷ vs → IsPlain xs → IsPlain us → (xs ≡ us) × (ys ≡ vs)
one-split [] ys [] vs e p q = (refl, cc)
one-split [] ys (u ∷ us) vs e p q = let same : u ≡ 45 = cc in absurd (q 0 (omega arith) same)
one-split (x ∷ xs) ys [] vs e p q = let same : x ≡ 45 = cc in absurd (p 0 (omega arith) same)
one-split (x ∷ xs) ys (u ∷ us) vs e p q =
    let first : x ≡ u = cc in
    let tail : xs ++ 45 ∷ ys ≡ us ++ 45 ∷ vs = cc in
    let k = one-split xs ys us vs tail (rest-plain x xs p) (rest-plain u us q) in
    (ap (λ (n : ℕ). n ∷ xs) first ∙ ap (λ (t : List ℕ). u ∷ t) k.0, k.1)

pub joined : (text low high : List ℕ) (r : Result AsBlock ParseAsBlockError) → text ≡ low ++ 45 ∷ high → IsPlain low
    → MatchResult r (IsAsRangeText low high) (IsAsRangeError low high)
    → MatchResult r (IsAsBlockText text) (IsAsBlockError text)
joined text low high (Ok b) e p h = inr (low, high, e, h)
joined text low high (Err BadRange) e p h = (low, high, e, h)
joined text low high (Err BadAsn) e p h = (
  λ a is. not-plain low high (subst IsPlain e (number-plain text a is)),
  λ l g s x y is_x is_y.
      let k = one-split l g low high (sym s ∙ e) (number-plain l x is_x) p in
      h x y (subst (λ (t : List ℕ). IsAsnText t x) k.0 is_x) (subst (λ (t : List ℕ). IsAsnText t y) k.1 is_y),
)

-- numbers that make no block are in the wrong order
pub no-block : (min max : Asn) (low high : ℕ) → low ≡ min.0 → high ≡ max.0 → max.0 < 2 ^ 32
    → ((b : AsBlock) → IsAsBlockOf b (record { low = low; high = high }) → ⊥) → max.0 < min.0
no-block min max low high e g below none = elim (split min.0 max.0) [
  | inl h ↦ absurd (none (Range (record { min = min; max = max }))
      (e, g, omega (arith, h, e, g), omega (arith, g, below)))
  | inr h ↦ (elim (split max.0 min.0) [
    | inl k ↦ k
    | inr k ↦ absurd (none (Id min) (e, omega (arith, h, k, g), omega (arith, g, below)))
  ])
]

-- ---- what is written is read back

pub number-first : (n : ℕ) → n < 2 ^ 64 → get_or (decimal n) 0 0 ≢ 43
number-first n small e =
    let d = decimal_is_IsNumeral n small in
    let within = digit_at (decimal n) 0 d.0.1 d.0.0 in
    absurd (omega (arith, within, e))

pub number-read-back : (a : Asn) → a.0 < 2 ^ 32 → IsAsnText (as_number_text a.0) a
number-read-back a small =
    let wide : a.0 < 2 ^ 64 = omega arith in
    let d = decimal_is_IsNumeral a.0 wide in
    let e : without_leading_plus (without_as (as_number_text a.0)) ≡ decimal a.0 =
    without_leading_plus_none (decimal a.0) (number-first a.0 wide) in
    record { digits = rw e d.0; value = rw e d.1; below = small }

pub block-read-back : (a : AsBlock) (b : Block) → IsAsBlockOf a b → IsAsBlockText (as_block_text a) a
block-read-back (Id a) b h = inl (a, number-read-back a (omega (arith, h.1, h.2)), refl)
block-read-back (Range r) b h =
    let low : r.min.0 < r.max.0 = omega (arith, h.0, h.1, h.2) in
    let high : r.max.0 < 2 ^ 32 = omega (arith, h.1, h.3) in
    let below : r.min.0 < 2 ^ 32 = omega (arith, low, high) in
    inr (
      as_number_text r.min.0,
      as_number_text r.max.0,
      refl,
      (r.min, r.max, number-read-back r.min below, number-read-back r.max high, (refl, refl, low, high)),
    )
