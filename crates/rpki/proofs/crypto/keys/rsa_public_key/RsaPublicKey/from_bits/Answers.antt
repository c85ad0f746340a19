use Rattle.std.proofs.lemmas.Result.{err_from_is_err_and}
use Rattle.rpki_der.proofs.ComposedLaws.{more-left, all-read}
use Rattle.rpki.specs.RsaPublicKey.{SpellsRsaNumbers, rsa_public_key}
use Rattle.rpki.proofs.RsaPublicKeyLaws.{whole-refused}
use Rattle.rpki.proofs.crypto.keys.rsa_public_key.RsaPublicKey.from_bits.Goals as goal

pub returns-in_err-key : goal.returns-in_err-key
returns-in_err-key c =
    let h = rw c.from_slice-cons.ensures at c.in_err-key.ensures in
    let p = err_from_is_err_and c.from_residual.result c.from_residual.ensures.1 in
    rw (p.1, p.2) (whole-refused c.args.bits.now _ c.in_err-key.field-0.0 h)

pub returns-in_err-finish : goal.returns-in_err-finish
returns-in_err-finish c =
    let h = rw c.from_slice-cons.ensures at c.in_ok-key.ensures in
    let k = more-left SpellsRsaNumbers rsa_public_key.fault c.args.bits.now _ _ h c.in_err-finish.ensures.1 in
    let p = err_from_is_err_and c.from_residual-in_err-finish.result c.from_residual-in_err-finish.ensures.1 in
    rw (p.1, p.2) (rw c.in_err-finish.ensures.0 (k.0, record { other = λ z. cc; kind = k.1 }))

pub returns : goal.returns
returns c =
    let h = rw c.from_slice-cons.ensures at c.in_ok-key.ensures in
    all-read SpellsRsaNumbers c.args.bits.now _ _ h c.in_ok-finish.ensures
