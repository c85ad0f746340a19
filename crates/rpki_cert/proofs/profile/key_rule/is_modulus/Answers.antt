use Rattle.std.proofs.Common.{refl}
use Rattle.std.proofs.lemmas.Bool.{false≢true}
use Rattle.rpki_cert.proofs.KeyLaws.{modulus-there, modulus-size, modulus-first}
use Rattle.rpki_cert.proofs.profile.key_rule.is_modulus.Goals as goal

pub returns-then-octets-ne256 : goal.returns-then-octets-ne256
returns-then-octets-ne256 c =
    let other = rw c.as_slice-octets.ensures.octets at c.if-octets-ne256.true in (
      λ z. absurd (false≢true z),
      λ h. absurd (other
          (modulus-size c.args.number.now c.as_slice-octets.ensures.magnitude h)),
    )

pub returns-then-octets-lt128 : goal.returns-then-octets-lt128
returns-then-octets-lt128 c =
    let size = rw c.as_slice-octets.ensures.octets at c.if-octets-ne256.false in
    let low = rw c.as_slice-octets.ensures.octets at c.if-octets-lt128.true in (
      λ z. absurd (false≢true z),
      λ h. absurd (modulus-first c.args.number.now c.as_slice-octets.ensures.magnitude size
          low h),
    )

pub returns : goal.returns
returns c =
    let size = rw c.as_slice-octets.ensures.octets at c.if-octets-ne256.false in
    let high = rw c.as_slice-octets.ensures.octets at c.if-octets-lt128.false in
    (λ z. modulus-there c.args.number.now c.as_slice-octets.ensures.magnitude size high, λ h. refl)
