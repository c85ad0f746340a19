use Rattle.std.proofs.Common.{◌≡◌, arith, refl}
use Rattle.std.proofs.lemmas.Bool.{iff_false}
use Rattle.rpki_x509.proofs.SignedPartsLaws.{signature-all, signature-unused, signature-more, signature-none}
use Rattle.rpki_x509.proofs.SignedPartsLaws.{bits-none, bits-more, bits-unused}
use Rattle.rpki_x509.proofs.signed_parts.read_signature.Goals as goal

pub returns-then-not-is_empty-clause-gives : goal.returns-then-not-is_empty-clause-gives
returns-then-not-is_empty-clause-gives c =
    signature-more _ _ _ c.in-Ok.ensures (iff_false c.is_empty.ensures c.if-not-is_empty.true)

pub returns-then-not-is_empty-clause-fault : goal.returns-then-not-is_empty-clause-fault
returns-then-not-is_empty-clause-fault c =
    bits-more _ _ _ c.in-Ok.ensures (iff_false c.is_empty.ensures c.if-not-is_empty.true)

pub returns-then-unused-gt0-clause-gives : goal.returns-then-unused-gt0-clause-gives
returns-then-unused-gt0-clause-gives c = signature-unused _ _ _ c.in-Ok.ensures
    (λ e. omega (arith, c.if-unused-gt0.true, c.unused.ensures.value, e))

pub returns-then-unused-gt0-clause-fault : goal.returns-then-unused-gt0-clause-fault
returns-then-unused-gt0-clause-fault c =
    bits-unused _ _ _ c.content.result c.in-Ok.ensures (c.is_empty.ensures.0 c.if-not-is_empty.false)
    (λ e. omega (arith, c.if-unused-gt0.true, c.unused.ensures.value, e)) (rw c.content.ensures refl)

pub returns-else-unused-gt0-clause-gives : goal.returns-else-unused-gt0-clause-gives
returns-else-unused-gt0-clause-gives c =
    let none : c.in-Ok.bits.unused ≡ 0 = omega (arith, c.if-unused-gt0.false, c.unused.ensures.value) in
    signature-all _ _ _ _ c.in-Ok.ensures none (c.is_empty.ensures.0 c.if-not-is_empty.false) c.octet_slice.ensures

pub returns-in-Err-clause-gives : goal.returns-in-Err-clause-gives
returns-in-Err-clause-gives c = signature-none _ _ c.in-Err.e c.in-Err.ensures

pub returns-in-Err-clause-fault : goal.returns-in-Err-clause-fault
returns-in-Err-clause-fault c = bits-none _ _ c.in-Err.e c.in-Err.ensures
