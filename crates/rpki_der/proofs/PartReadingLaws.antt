-- A function that reads a part of a header, in the terms of the grammar of that part.
use Rattle.std.proofs.Common.{◌≡◌, ℕ, ◌/◌, ◌%◌, ◌<◌, ◌≤◌, ◌⊎◌, false, eqb, ◌&&◌, List, [], ◌∷◌, ◌++◌, length, get_or}
use Rattle.std.proofs.Common.{take, drop, ◌-◌, zero-add, Result, Ok, Err, refl, sym, ap, ◌∙◌, subst, arith, inl, inr}
use Rattle.std.proofs.lemmas.List.{append-nil, take_rest}
use Rattle.std.proofs.lemmas.Bool.{cases_eq, ne_eqb, eq-eqb, and_left, and_right, and_from}
use Rattle.std.proofs.Math.Nat.{pow-zero}
use Rattle.rpki_der.specs.declared.error.DecodeError.{DecodeError}
use Rattle.rpki_der.specs.declared.error.DecodeError.TheVariants.{Truncated, BadTag, BadLength}
use Rattle.rpki_der.specs.declared.tag.Class.{Class}
use Rattle.rpki_der.specs.TagName.{tag_of}
use Rattle.rpki_der.specs.Header.{class_number, digits, identifier_octets, length_octets}
use Rattle.rpki_der.specs.Reading.{Spells, Accepts, Refuses, IsCut}
use Rattle.rpki_der.specs.Values.{SpellsIdentifier}
use Rattle.rpki_der.specs.HeaderParts.{SpellsTagNumber, SpellsLength, SpellsLongLength, IsPartFault, ReadsPart}
use Rattle.rpki_der.specs.HeaderReading.{class_at, number_at, identifier_at, octets_at, length_at}
use Rattle.rpki_der.proofs.StepLaws.{IsBytes, IsBytes-append, IsBytes-cons, IsBytes-tail, pair-is}
use Rattle.rpki_der.proofs.DigitLaws.{digits-zero}
use Rattle.rpki_der.proofs.TagNumberLaws.{number-again, number-takes, number-stays, number-completes, number-errors}
use Rattle.rpki_der.proofs.IdentifierLaws.{class-again, identifier-empty, identifier-none, identifier-low}
use Rattle.rpki_der.proofs.IdentifierLaws.{identifier-high, identifier-again, identifier-takes, identifier-stays}
use Rattle.rpki_der.proofs.IdentifierLaws.{identifier-completes, identifier-errors}
use Rattle.rpki_der.proofs.LengthLaws.{octets-again, octets-take, octets-stay, octets-complete, octets-errors}
use Rattle.rpki_der.proofs.LengthLaws.{length-again, length-takes, length-stays, length-completes, length-errors}
use Rattle.rpki_der.proofs.LengthLaws.{length-empty, length-short, length-wrong, length-long}

-- f reads the parts that G spells, and returns bad where octets can't be continued to one
pub record IsPart {V : Type 0} (G : V → List ℕ → Type 0) (bad : DecodeError)
    (f : List ℕ → Result (V × List ℕ) DecodeError) : Type 0 where
  pub again : (v : V) (p s : List ℕ) → G v p → f (p ++ s) ≡ Ok (v, s)
  pub takes : (s : List ℕ) (v : V) (r : List ℕ) → IsBytes s → f s ≡ Ok (v, r) → Spells G s v r
  pub stays : (s t : List ℕ) → f s ≡ Err bad → f (s ++ t) ≡ Err bad
  pub completes : (s : List ℕ) → f s ≡ Err Truncated → (v : V) × (t : List ℕ) × IsBytes t × (f (s ++ t) ≡ Ok (v, []))
  pub errors : (s : List ℕ) (e : DecodeError) → f s ≡ Err e → (e ≡ Truncated) ⊎ (e ≡ bad)

-- a part at the front is read
pub part-read : {V : Type 0} {G : V → List ℕ → Type 0} {bad : DecodeError}
    {f : List ℕ → Result (V × List ℕ) DecodeError} → IsPart G bad f
    → (s : List ℕ) (v : V) (r : List ℕ) → Spells G s v r → f s ≡ Ok (v, r)
part-read h s v r sp = rw sp.parts (h.again v sp.front r sp.spelled)

-- what is read is the one part at the front
pub part-accepts : {V : Type 0} {G : V → List ℕ → Type 0} {bad : DecodeError}
    {f : List ℕ → Result (V × List ℕ) DecodeError} → IsPart G bad f
    → (s : List ℕ) (v : V) (r : List ℕ) → IsBytes s → f s ≡ Ok (v, r) → Accepts G s v r
part-accepts h s v r bytes e = record {
  spells = h.takes s v r bytes e;
  only = λ w q sp. pair-is w v q r (sym (part-read h s w q sp) ∙ e);
}

-- octets that end within a part are a proper beginning of one
part-cut : {V : Type 0} {G : V → List ℕ → Type 0} {bad : DecodeError} {f : List ℕ → Result (V × List ℕ) DecodeError}
    → IsPart G bad f
    → (s : List ℕ) → IsBytes s → f s ≡ Err Truncated → IsCut G s
part-cut {V} {G} {bad} {f} h s bytes failed = let c = h.completes s failed in go c.0 c.1 c.2 c.3
  where
    go : (v : V) (t : List ℕ) → IsBytes t → f (s ++ t) ≡ Ok (v, []) → IsCut G s
    go v [] b e = absurd (let g = rw append-nil at e in cc)
    go v (x ∷ more) b e =
        let sp = h.takes (s ++ x ∷ more) v [] (IsBytes-append s (x ∷ more) bytes b) e in
        (v, x, more, subst (G v) (sym (sp.parts ∙ append-nil sp.front)) sp.spelled)

-- octets that are bad are no beginning of one
part-uncut : {V : Type 0} {G : V → List ℕ → Type 0} {bad : DecodeError} {f : List ℕ → Result (V × List ℕ) DecodeError}
    → IsPart G bad f
    → (s : List ℕ) → f s ≡ Err bad → IsCut G s → ⊥
part-uncut h s failed (v, b, more, g) =
    let whole = h.again v (s ++ b ∷ more) [] g in
    let stays = h.stays s (b ∷ more) failed in
    absurd (let read = rw append-nil at whole in cc)

-- where nothing is read no part begins, and the fault is that of the part
pub part-refuses : {V : Type 0} {G : V → List ℕ → Type 0} {bad : DecodeError}
    {f : List ℕ → Result (V × List ℕ) DecodeError} → IsPart G bad f
    → (s : List ℕ) (e : DecodeError) → IsBytes s → f s ≡ Err e → Refuses G s × IsPartFault G bad s e
part-refuses h s e bytes failed = (
  λ v r sp. absurd (let read = part-read h s v r sp in cc),
  elim (h.errors s e failed) [
    | inl cut ↦ inl (cut, part-cut h s bytes (failed ∙ ap (λ (x : DecodeError). Err x) cut))
    | inr bad ↦ inr (bad, part-uncut h s (failed ∙ ap (λ (x : DecodeError). Err x) bad))
  ],
)

-- and the other way round
pub part-failed : {V : Type 0} {G : V → List ℕ → Type 0} {bad : DecodeError}
    {f : List ℕ → Result (V × List ℕ) DecodeError} → IsPart G bad f
    → (s : List ℕ) (e : DecodeError) → IsBytes s → Refuses G s × IsPartFault G bad s e → f s ≡ Err e
part-failed {V} {G} {bad} {f} h s e bytes (none, fault) = go (f s) refl
  where
    go : (r : Result (V × List ℕ) DecodeError) → f s ≡ r → f s ≡ Err e
    go (Ok (v, q)) is = absurd (none v q (h.takes s v q bytes is))
    go (Err d) is =
        elim (h.errors s d is) [
          | inl cut ↦
              elim fault [
                | inl same ↦ is ∙ ap (λ (x : DecodeError). Err x) (cut ∙ sym same.0)
                | inr other ↦ absurd (other.1 (part-cut h s bytes (is ∙ ap (λ (x : DecodeError). Err x) cut)))
              ]
          | inr bad ↦
              elim fault [
                | inl same ↦ absurd (part-uncut h s (is ∙ ap (λ (x : DecodeError). Err x) bad) same.1)
                | inr other ↦ is ∙ ap (λ (x : DecodeError). Err x) (bad ∙ sym other.0)
              ]
        ]

-- ---- the parts

pub number-part : IsPart SpellsTagNumber BadTag (number_at 4 0)
number-part = record {
  again = λ n p s g. rw g.octets (number-again n s g.low g.high);
  takes = λ s n r bytes e.
      let h = number-takes 4 0 0 s n r (omega arith) (omega (arith, pow-zero 128)) bytes e in
      record {
        front = digits 128 128 3 (n / 128) ++ (n % 128) ∷ [];
        parts = rw (digits-zero 128 128 3) at h.octets;
        spelled = record { low = h.low; high = h.high; octets = refl };
      };
  stays = number-stays 4 0;
  completes = λ s e. let c = number-completes 4 0 s e in
      (c.0, 127 ∷ [], IsBytes-cons 127 [] (omega arith) (λ i. omega arith), c.1);
  errors = number-errors 4 0;
}

pub identifier-part : IsPart SpellsIdentifier BadTag identifier_at
identifier-part = record {
  again = λ i p s g. rw g.octets (identifier-again i.0 i.1 s g.legal);
  takes = λ s i r bytes e. let h = identifier-takes s i r bytes e in record
      { front = identifier_octets i.0 i.1; parts = h.octets; spelled = record { legal = h.legal; octets = refl } };
  stays = identifier-stays;
  completes = identifier-completes;
  errors = identifier-errors;
}

pub long-part : (count : ℕ) → count ≤ 4 → IsPart (SpellsLongLength count) BadLength (octets_at count 0)
long-part count le = record {
  again = λ n p s g. rw (← g.counted, g.octets) (octets-again n s g.low g.fits);
  takes = λ s n r bytes e.
      let h = octets-take count 0 0 s n r (omega arith) (omega (arith, pow-zero 256)) bytes e in
      let none : digits 256 0 4 0 ≡ [] = digits-zero 256 0 4 in
      record {
        front = digits 256 0 4 n;
        parts = rw none at h.octets;
        spelled = record
            { low = h.low; fits = h.high; octets = refl; counted = (rw none at h.count) ∙ zero-add count };
      };
  stays = octets-stay count 0;
  completes = octets-complete count 0;
  errors = octets-errors count 0;
}

pub length-part : IsPart SpellsLength BadLength length_at
length-part = record {
  again = λ n p s g. rw g.octets (length-again n s g.fits);
  takes = λ s n r bytes e. let h = length-takes s n r bytes e in record
      { front = length_octets n; parts = h.octets; spelled = record { fits = h.high; octets = refl } };
  stays = length-stays;
  completes = length-completes;
  errors = length-errors;
}

-- ---- the first octet, and what remains after it, as a pattern of a slice gives them

abbrev pub tail : List ℕ → List ℕ
tail s = take (length s - 1) (drop 1 s)

pub length-none : (s : List ℕ) → length s < 1 → length_at s ≡ Err Truncated
length-none [] lt = length-empty
length-none (b ∷ s) lt = absurd (omega arith)

pub length-first : (s : List ℕ) → 1 ≤ length s → get_or s 0 0 < 128 → length_at s ≡ Ok (get_or s 0 0, tail s)
length-first [] le lt = absurd (omega arith)
length-first (b ∷ s) le lt = rw (take_rest (b ∷ s) 1) (length-short b s lt)

pub length-bad : (s : List ℕ) → 1 ≤ length s → 128 ≤ get_or s 0 0 → (get_or s 0 0 ≡ 128) ⊎ (132 < get_or s 0 0)
    → length_at s ≡ Err BadLength
length-bad [] le ge wrong = absurd (omega arith)
length-bad (b ∷ s) le ge wrong = length-wrong b s ge wrong

length-more : (s : List ℕ) → 1 ≤ length s → 128 < get_or s 0 0 → get_or s 0 0 ≤ 132
    → length_at s ≡ octets_at (get_or s 0 0 - 128) 0 (tail s)
length-more [] le gt few = absurd (omega arith)
length-more (b ∷ s) le gt few = rw (take_rest (b ∷ s) 1) (length-long b s gt few)

-- the result of the reader of the octets that follow is the result
pub length-follows : {X : Type 0} (view : X → ℕ × List ℕ) (s : List ℕ) (r : Result X DecodeError) → IsBytes s
    → 1 ≤ length s → 128 < get_or s 0 0 → get_or s 0 0 ≤ 132
    → ReadsPart view (SpellsLongLength (get_or s 0 0 - 128)) BadLength (tail s) r
    → ReadsPart view SpellsLength BadLength s r
length-follows view s (Ok x) bytes le gt few a =
    let part = long-part (get_or s 0 0 - 128) (omega arith) in
    part-accepts length-part s (view x).0 (view x).1 bytes
    (length-more s le gt few ∙ part-read part (tail s) (view x).0 (view x).1 a.spells)
length-follows view s (Err e) bytes le gt few a =
    let part = long-part (get_or s 0 0 - 128) (omega arith) in
    part-refuses length-part s e bytes (length-more s le gt few ∙ part-failed part (tail s) e (IsBytes-tail s bytes) a)

pub identifier-nothing : (s : List ℕ) → length s < 1 → identifier_at s ≡ Err Truncated
identifier-nothing [] lt = identifier-empty
identifier-nothing (b ∷ s) lt = absurd (omega arith)

-- the first octet has the number of the tag, or says that octets of it follow
pub identifier-zero : (s : List ℕ) → 1 ≤ length s → get_or s 0 0 / 64 ≡ 0 → get_or s 0 0 % 32 ≡ 0
    → identifier_at s ≡ Err BadTag
identifier-zero [] le class low = absurd (omega arith)
identifier-zero (b ∷ s) le class low =
    identifier-none b s (omega arith) (and_from _ _ (eq-eqb (b / 64) 0 class) (eq-eqb (b % 32) 0 low))

class-is : (k : Class) (b : ℕ) → class_number k ≡ b / 64 → class_at (b / 64) ≡ k
class-is k b e = sym (ap class_at e) ∙ class-again k

pub identifier-first : (s : List ℕ) (k : Class) → 1 ≤ length s → class_number k ≡ get_or s 0 0 / 64
    → get_or s 0 0 % 32 < 31 → (get_or s 0 0 / 64 ≡ 0 → get_or s 0 0 % 32 ≡ 0 → ⊥)
    → identifier_at s ≡ Ok ((tag_of k (get_or s 0 0 % 32), eqb (get_or s 0 0 / 32 % 2) 1), tail s)
identifier-first [] k le class lt named = absurd (omega arith)
identifier-first (b ∷ s) k le class lt named =
    let is : (eqb (b / 64) 0 && eqb (b % 32) 0) ≡ false =
    elim (cases_eq (b / 64) 0) [
      | inl z ↦ and_right _ _ (ne_eqb (b % 32) 0 (named z))
      | inr ne ↦ and_left _ _
          (ne_eqb (b / 64) 0 ne)
    ] in
    rw (take_rest (b ∷ s) 1, ← class-is k b class) (identifier-low b s lt is)

identifier-more : (s : List ℕ) (k : Class) (n : ℕ) (q : List ℕ) → 1 ≤ length s → class_number k ≡ get_or s 0 0 / 64
    → 31 ≤ get_or s 0 0 % 32 → number_at 4 0 (tail s) ≡ Ok (n, q)
    → identifier_at s ≡ Ok ((tag_of k n, eqb (get_or s 0 0 / 32 % 2) 1), q)
identifier-more [] k n q le class ge e = absurd (omega arith)
identifier-more (b ∷ s) k n q le class ge e =
    let read : number_at 4 0 s ≡ Ok (n, q) = rw (take_rest (b ∷ s) 1) at e in
    rw (← class-is k b class) (identifier-high b s ge ∙ rw read refl)

identifier-fails : (s : List ℕ) (e : DecodeError) → 1 ≤ length s → 31 ≤ get_or s 0 0 % 32
    → number_at 4 0 (tail s) ≡ Err e → identifier_at s ≡ Err e
identifier-fails [] e le ge h = absurd (omega arith)
identifier-fails (b ∷ s) e le ge h =
    let failed : number_at 4 0 s ≡ Err e = rw (take_rest (b ∷ s) 1) at h in
    identifier-high b s ge ∙ rw failed refl

-- the result of the reader of the octets that follow is the result
pub number-follows : (s : List ℕ) (k : Class) (n : ℕ) (q : List ℕ) → IsBytes s → 1 ≤ length s
    → class_number k ≡ get_or s 0 0 / 64 → 31 ≤ get_or s 0 0 % 32
    → Accepts SpellsTagNumber (tail s) n q → Accepts SpellsIdentifier s (tag_of k n, eqb (get_or s 0 0 / 32 % 2) 1) q
number-follows s k n q bytes le class ge a =
    part-accepts identifier-part s (tag_of k n, eqb (get_or s 0 0 / 32 % 2) 1) q bytes
    (identifier-more s k n q le class ge (part-read number-part (tail s) n q a.spells))

pub number-refused : (s : List ℕ) (e : DecodeError) → IsBytes s → 1 ≤ length s → 31 ≤ get_or s 0 0 % 32
    → Refuses SpellsTagNumber (tail s) × IsPartFault SpellsTagNumber BadTag (tail s) e
    → Refuses SpellsIdentifier s × IsPartFault SpellsIdentifier BadTag s e
number-refused s e bytes le ge h = part-refuses identifier-part s e bytes
    (identifier-fails s e le ge (part-failed number-part (tail s) e (IsBytes-tail s bytes) h))
