-- What a key that breaks no rule has; and that bits are those of one key at most.
use Rattle.std.proofs.Common.{◌≡◌, List, [], ◌∷◌, ℕ, ◌+◌, ◌*◌, ◌%◌, ◌^◌, ◌<◌, ◌≤◌, Bool, true, false, length, get_or}
use Rattle.std.proofs.Common.{refl, ◌∙◌, ap, sym, arith, Option, Err, Some, None}
use Rattle.std.specs.Prelude.{if◌then◌else◌, nat_lt, nat_le, ◌==◌}
use Rattle.std.proofs.lemmas.Bool.{ltb-false}
use Rattle.std.proofs.lemmas.Bool.Decides.{nat_tests}
use Rattle.rpki_der.specs.Prelude.{number_of, IsMagnitude}
use Rattle.rpki_rsa.specs.declared.error.KeyError.{KeyError}
use Rattle.rpki_rsa.specs.declared.error.KeyError.TheVariants.{Malformed, ShortModulus, LongModulus, EvenModulus}
use Rattle.rpki_rsa.specs.declared.error.KeyError.TheVariants.{LargeExponent, EvenExponent, ExponentOne}
use Rattle.rpki_rsa.specs.Key.{IsKeyOf, SpellsKey, SpellsOctets, BreaksRule, key_fault, key_of}
use Rattle.rpki_rsa.specs.RsaKey.{RsaKey}
use Rattle.rpki.specs.RsaPublicKey.{RsaOctets, numbers_of, octets_of}
use Rattle.rpki.specs.KeySize.{octet_bits, number_bits}
use Rattle.rpki.proofs.RsaPublicKeyLaws.{one-numbers, one-magnitude}

one-octets : (bits : List ℕ) (a b : RsaOctets) → SpellsOctets a bits → SpellsOctets b bits → a ≡ b
one-octets bits a b g h =
    let same = one-numbers bits (numbers_of a) (numbers_of b) g.numbers h.numbers in
    let modulus = one-magnitude a.modulus b.modulus g.modulus h.modulus (ap (λ (n : ℕ × ℕ). n.0) same) in
    let exponent = one-magnitude a.exponent b.exponent g.exponent h.exponent (ap (λ (n : ℕ × ℕ). n.1) same) in
    λ i. octets_of (modulus i) (exponent i)

pub one-key : (bits : List ℕ) (k l : RsaKey) → SpellsKey k bits → SpellsKey l bits → k ≡ l
one-key bits k l g h = g.is ∙ ap key_of (one-octets bits g.octets h.octets g.spelled h.spelled) ∙ sym h.is

broken : (e : KeyError) (bits : List ℕ) (k : RsaKey) → BreaksRule e bits → SpellsKey k bits → ⊥
broken e bits k g h =
    let same = sym g.broken ∙ ap key_fault (one-octets bits g.octets h.octets g.spelled h.spelled) ∙ h.accepted in cc

pub no-key : (bits : List ℕ) (e : KeyError) (k : RsaKey) → IsKeyOf bits (Err e) → SpellsKey k bits → ⊥
no-key bits (Malformed e) k g h = g.0 (numbers_of h.octets) h.spelled.numbers
no-key bits ShortModulus k g h = broken _ bits k g h
no-key bits LongModulus k g h = broken _ bits k g h
no-key bits EvenModulus k g h = broken _ bits k g h
no-key bits LargeExponent k g h = broken _ bits k g h
no-key bits EvenExponent k g h = broken _ bits k g h
no-key bits ExponentOne k g h = broken _ bits k g h

-- what a key has that breaks no rule
pub record IsAccepted (octets : RsaOctets) : Type 0 where
  pub least : 256 ≤ length octets.modulus
  pub most : length octets.modulus ≤ 512
  pub shortest : 0 < get_or octets.modulus 0 0
  pub odd : number_of octets.modulus % 2 ≡ 1
  pub fits : number_of octets.exponent < 2 ^ 64

passed : {A : Type 0} (b : Bool) (x : A) (y : Option A) → (if b then Some x else y) ≡ None → (b ≡ false) × (y ≡ None)
passed true x y h = absurd (cc)
passed false x y h = (refl, h)

octet_bits_le : (x : ℕ) → octet_bits x ≤ 8
octet_bits_le x = grind arith

octet_bits_pos : (x : ℕ) → 0 < x → 0 < octet_bits x
octet_bits_pos x h = grind arith

bits_at_most : (xs : List ℕ) → number_bits xs ≤ 8 * length xs
bits_at_most [] = omega arith
bits_at_most (x ∷ xs) = omega (arith, octet_bits_le x)

bits_at_least : (xs : List ℕ) → 0 < get_or xs 0 0 → 8 * length xs < number_bits xs + 8
bits_at_least [] h = omega arith
bits_at_least (x ∷ xs) h = omega (arith, octet_bits_pos x h)

pub accepted : (octets : RsaOctets) → IsMagnitude octets.modulus → key_fault octets ≡ None → IsAccepted octets
accepted octets magnitude none =
    let modulus = octets.modulus in
    let a = passed (nat_lt (number_bits modulus) 2048) _ _ none in
    let b = passed (nat_lt 4096 (number_bits modulus)) _ _ a.1 in
    let c = passed (number_of modulus % 2 == 0) _ _ b.1 in
    let d = passed (nat_le (2 ^ 64) (number_of octets.exponent)) _ _ c.1 in
    let short = ltb-false _ _ a.0 in
    let long = ltb-false _ _ b.0 in
    let odd : number_of modulus % 2 ≡ 1 = grind (arith, nat_tests, c.0) in
    let few : number_of octets.exponent < 2 ^ 64 = grind (arith, nat_tests, d.0) in
    let least : 256 ≤ length modulus = omega (arith, bits_at_most modulus) in
    let first = magnitude.no_zero_in_front (omega arith) in
    record {
      least = least;
      most = omega (arith, bits_at_least modulus first);
      shortest = first;
      odd = odd;
      fits = few;
    }
