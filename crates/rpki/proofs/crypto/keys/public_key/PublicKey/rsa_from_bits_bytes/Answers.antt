use Rattle.std.proofs.lemmas.Result.{err_from_is_err_and}
use Rattle.rpki.proofs.PublicKeyLaws.{no-rsa-key, is-rsa-key}
use Rattle.rpki.proofs.crypto.keys.public_key.PublicKey.rsa_from_bits_bytes.Goals as goal

pub returns-in_err-from_bits : goal.returns-in_err-from_bits
returns-in_err-from_bits c =
    let h = rw c.deref.ensures at c.in_err-from_bits.ensures in
    let p = err_from_is_err_and c.from_residual.result c.from_residual.ensures.1 in
    rw (p.1, p.2) (no-rsa-key c.args.bytes c.in_err-from_bits.field-0.0 h)

pub returns : goal.returns
returns c =
    let h = rw c.deref.ensures at c.in_ok-from_bits.ensures in
    rw c.of_bits.ensures (is-rsa-key c.args.bytes _ h.0)
