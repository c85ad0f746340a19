use Rattle.std.proofs.Common.{refl, inl, inr}
use Rattle.rpki_der.specs.Leaves.{bits_of}
use Rattle.rpki.specs.declared.crypto.keys.PublicKeyFormat.TheVariants.{Rsa}
use Rattle.rpki.specs.PublicKey.{KeyParts}
use Rattle.rpki.proofs.PublicKeyLaws.{no-rsa-key}
use Rattle.rpki_c.proofs.key_writing.uncopied.Goals as goal

pub returns-in-Ok : goal.returns-in-Ok
returns-in-Ok c =
    let key : KeyParts = record { format = Rsa; bits = bits_of 0 c.args.bits.now } in
    inl (key, record { format = refl; bits = refl; numbers = (_, c.in-Ok.ensures.0) }, refl)

pub returns-in-Err : goal.returns-in-Err
returns-in-Err c =
    let none = no-rsa-key c.args.bits.now c.in-Err.e c.in-Err.ensures in
    inr (record { error = c.in-Err.e; number = c.number.ensures; nothing = none.0; kind = none.1 })
