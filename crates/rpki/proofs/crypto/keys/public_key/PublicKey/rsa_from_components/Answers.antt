use Rattle.std.proofs.Common.{◌≡◌, ◌≤◌, ◌+◌, ◌^◌, ◌<◌, length, arith, true, ap, ◌∙◌, refl}
use Rattle.rpki_der.specs.Prelude.{sequence, tlv}
use Rattle.rpki_der.proofs.EncodeLaws.{tlv_at_most}
use Rattle.rpki_der.proofs.UnsignedLaws.{unsigned-at-most}
use Rattle.rpki_der.proofs.IntegerLaws.{octets-fit}
use Rattle.rpki.specs.PublicKey.{KeyParts}
use Rattle.rpki.proofs.PublicKeyLaws.{numbers-short, shorter, two_integers, rsa-bits}
use Rattle.rpki.proofs.crypto.keys.public_key.PublicKey.rsa_from_components.Goals as goal

pub write_to_bytes-requires : goal.write_to_bytes-requires
write_to_bytes-requires c =
    let m = c.in_ok-modulus.modulus in
    let n = c.in_ok-exponent.exponent in
    let lm : length m ≤ length c.args.modulus.now = shorter m c.args.modulus.now c.in_ok-modulus.ensures.magnitude
    (octets-fit c.args.modulus.now c.type_inv.modulus) c.in_ok-modulus.ensures.some c.in_ok-modulus.ensures.value in
    let ln : length n ≤ length c.args.exponent.now = shorter n c.args.exponent.now c.in_ok-exponent.ensures.magnitude
    (octets-fit c.args.exponent.now c.type_inv.exponent) c.in_ok-exponent.ensures.some c.in_ok-exponent.ensures.value in
    let small : length m + length n ≤ 2 ^ 31 = omega (arith, c.requires) in
    let all : length (two_integers m n) < 2 ^ 32 = numbers-short m n small in
    rw c.new-numbers.ensures (
      (
        (
          c.encode.ensures.short.1 (omega (arith, unsigned-at-most m)),
          c.encode-2.ensures.short.1
              (omega (arith, unsigned-at-most n)),
        ),
        rw (c.encode.ensures.encoded, c.encode-2.ensures.encoded) all,
      ),
      rw (c.encode.ensures.encoded, c.encode-2.ensures.encoded)
          (omega (arith, tlv_at_most sequence true (two_integers m n))),
    )

pub returns-in-Ok-clause-bits : goal.returns-in-Ok-clause-bits
returns-in-Ok-clause-bits c =
    let m = c.in_ok-modulus.modulus in
    let n = c.in_ok-exponent.exponent in
    let lm : length m ≤ length c.args.modulus.now = shorter m c.args.modulus.now c.in_ok-modulus.ensures.magnitude
    (octets-fit c.args.modulus.now c.type_inv.modulus) c.in_ok-modulus.ensures.some c.in_ok-modulus.ensures.value in
    let ln : length n ≤ length c.args.exponent.now = shorter n c.args.exponent.now c.in_ok-exponent.ensures.magnitude
    (octets-fit c.args.exponent.now c.type_inv.exponent) c.in_ok-exponent.ensures.some c.in_ok-exponent.ensures.value in
    let small : length m + length n ≤ 2 ^ 31 = omega (arith, c.requires) in
    let is : c.of_bits.result.bits.octets ≡ tlv sequence true (two_integers m n) =
    ap (λ (k : KeyParts). k.bits.octets) c.of_bits.ensures ∙ c.in-Ok.ensures ∙
    (rw (c.new-numbers.ensures, c.encode.ensures.encoded, c.encode-2.ensures.encoded) refl) in
    rsa-bits c.args.modulus.now c.args.exponent.now m n c.of_bits.result.bits.octets c.in_ok-modulus.ensures.magnitude
    c.in_ok-exponent.ensures.magnitude small c.in_ok-modulus.ensures.value c.in_ok-exponent.ensures.value is

pub returns-in-Ok-clause-again : goal.returns-in-Ok-clause-again
returns-in-Ok-clause-again c =
    record {
      format = ap (λ (k : KeyParts). k.format) c.of_bits.ensures;
      bits = rw c.of_bits.ensures refl;
      numbers = (_, bits-of c);
    } where
      bits-of : goal.returns-in-Ok-clause-bits
      bits-of = returns-in-Ok-clause-bits
