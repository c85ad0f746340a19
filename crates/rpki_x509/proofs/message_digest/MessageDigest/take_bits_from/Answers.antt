use Rattle.std.proofs.Common.{◌∙◌, sym}
use Rattle.rpki_der.specs.LeafFormats.{bits_value}
use Rattle.rpki_der.proofs.ChoiceLaws.{such-read}
use Rattle.rpki_x509.specs.MessageDigest.{IsFileHash}
use Rattle.rpki_x509.proofs.SuchLaws.{not-there, malformed}
use Rattle.rpki_x509.proofs.message_digest.MessageDigest.take_bits_from.Goals as goal

pub returns-in-Err : goal.returns-in-Err
returns-in-Err c = not-there IsFileHash bits_value c.in-Err.ensures

pub returns-then-unused-ne0 : goal.returns-then-unused-ne0
returns-then-unused-ne0 c =
    malformed IsFileHash bits_value _ c.content.ensures c.in-Ok.ensures
    (λ v h. c.if-unused-ne0.true (c.unused.ensures.value ∙ h.used))

pub returns-in-Some : goal.returns-in-Some
returns-in-Some c =
    let found = rw c.octet_slice.ensures at c.in-Some.ensures.octets in
    such-read IsFileHash bits_value c.in-Some.octets c.in-Ok.ensures
    (record { octets = found.0; used = sym c.unused.ensures.value ∙ c.if-unused-ne0.false; size = found.1 })
    (λ w h. h.octets ∙ sym found.0)

pub returns-in-None : goal.returns-in-None
returns-in-None c =
    let other = rw c.octet_slice.ensures at c.in-None.ensures.none in
    malformed IsFileHash bits_value _ c.content-in-None.ensures c.in-Ok.ensures (λ v h. other h.size)
