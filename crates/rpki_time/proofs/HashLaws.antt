-- What is hashed of serial numbers and times tells them apart.
use Rattle.std.proofs.Common.{◌≡◌, ◌↔◌, ℕ, zero, suc, ◌+◌, ◌*◌, ◌/◌, ◌%◌, ◌^◌, ◌<◌, ◌∷◌, sym, ap, ◌∙◌}
use Rattle.std.proofs.Common.{arith}
use Rattle.std.proofs.Math.Nat.{mod-eq_of_lt, one-le-pow, pow-suc}
use Rattle.std.proofs.Math.Arith.{mod-mul}
use Rattle.std.proofs.Math.Facts.{Fits-of_z}
use Rattle.std.proofs.lemmas.Int.{to_z-of_z}
use Rattle.std.specs.Int.RustNames.{FitsSigned}
use Rattle.jiff.proofs.SpanFacts.{signed_arith}
use Rattle.std.specs.Hash.{u8, slice, i128, le_bytes}
use Rattle.std.specs.Int.{cast_unsigned, cast_signed, w128}
use Rattle.jiff.specs.Types.{DateTime}
use Rattle.jiff.specs.Words.{civil_nanos}
use Rattle.jiff.proofs.Family.{civil_nanos_range}
use Rattle.rpki_der.specs.Number.{low_octets}
use Rattle.rpki_time.specs.Validity.{Period}
use Rattle.rpki_der.proofs.HashLaws.{hashed-octets, low-first-same}

first-apart : (k n : ℕ) → n % 256 ^ suc k ≡ (n / 256 ^ k % 256) * 256 ^ k + n % 256 ^ k
first-apart k n =
    let above : 0 < 256 ^ k = omega (arith, one-le-pow k 256 (omega arith)) in
    ap (λ p. n % p) (omega (arith, pow-suc 256 k)) ∙ mod-mul n (omega arith) above

low-same : (k m n : ℕ) → low_octets k m ≡ low_octets k n → m % 256 ^ k ≡ n % 256 ^ k
unfolding low_octets
low-same zero m n e = omega arith
low-same (suc k) m n e =
    let top : m / 256 ^ k % 256 ≡ n / 256 ^ k % 256 = cc in
    let rest = low-same k m n (cc) in
    first-apart k m ∙ ap (λ q. q * 256 ^ k + m % 256 ^ k) top ∙ ap (λ r. (n / 256 ^ k % 256) * 256 ^ k + r) rest ∙ sym
    (first-apart k n)

pub serials-hashed : (m n : ℕ) → m < 2 ^ 160 → n < 2 ^ 160
    → (slice u8 (low_octets 20 m) ≡ slice u8 (low_octets 20 n)) ↔ (m ≡ n)
serials-hashed m n h l = (
  λ e. let same = low-same 20 m n ((hashed-octets _ _).0 e) in
      sym (mod-eq_of_lt h) ∙ same ∙ mod-eq_of_lt l,
  λ e. ap (λ x. slice u8 (low_octets 20 x)) e,
)

octets-same : (m n : ℕ) → m < 2 ^ 128 → n < 2 ^ 128 → le_bytes 16 m ≡ le_bytes 16 n → m ≡ n
unfolding le_bytes
octets-same m n h l e = low-first-same 16 m n h l e

in-width : (t : DateTime) → FitsSigned w128 (civil_nanos t)
in-width t = let range = civil_nanos_range t in omega (arith, signed_arith)

pub times-hashed : (t u : DateTime) → (i128 (civil_nanos t) ≡ i128 (civil_nanos u)) ↔ (civil_nanos t ≡ civil_nanos u)
times-hashed t u = (
  λ e. let octets : le_bytes 16 (cast_unsigned w128 (civil_nanos t)) ≡ le_bytes 16 (cast_unsigned w128 (civil_nanos u))
      = cc in
      let bits = octets-same (cast_unsigned w128 (civil_nanos t)) (cast_unsigned w128 (civil_nanos u))
      ((Fits-of_z (in-width t)).fits) ((Fits-of_z (in-width u)).fits) octets in
      sym (to_z-of_z w128 (civil_nanos t) (in-width t)) ∙ ap (cast_signed w128) bits ∙ to_z-of_z w128 (civil_nanos u)
      (in-width u),
  λ e. ap i128 e,
)

pub periods-hashed : (p q : Period)
    → (le_bytes 16 (cast_unsigned w128 (civil_nanos p.not_before)) ∷ i128 (civil_nanos p.not_after)
    ≡ le_bytes 16 (cast_unsigned w128 (civil_nanos q.not_before)) ∷ i128 (civil_nanos q.not_after))
    ↔ ((civil_nanos p.not_before ≡ civil_nanos q.not_before) × (civil_nanos p.not_after ≡ civil_nanos q.not_after))
periods-hashed p q = (
  λ e. ((times-hashed p.not_before q.not_before).0 (cc), (times-hashed p.not_after q.not_after).0 (cc)),
  λ e. cc,
)
