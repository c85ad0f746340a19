use Rattle.std.proofs.Common.{inl, inr}
use Rattle.std.proofs.lemmas.Result.{IfOk-weaker}
use Rattle.rpki_der.specs.Reading.{SpellsNothing}
use Rattle.rpki.specs.RsaPublicKey.{SpellsRsaNumbers}
use Rattle.rpki_der.proofs.ReadingLaws.{unless-memory}
use Rattle.rpki_fields.proofs.key_size.rsa_size.Goals as goal

pub returns-in-Ok : goal.returns-in-Ok
returns-in-Ok c =
    IfOk-weaker c.number_text.result _ _
    (λ text e. inl (record {
      octets = c.in-Ok.key;
      spelled = c.in-Ok.ensures.0;
      magnitude = c.size.ensures.magnitude;
      size = rw (← c.size.ensures.bits) e;
    }))
    c.number_text.ensures

pub returns-in-Err : goal.returns-in-Err
returns-in-Err c =
    let h = c.in-Err.ensures in
    let none : SpellsNothing SpellsRsaNumbers c.args.bits.now = unless-memory c.in-Err.field-0 h.1.other h.0 in
    IfOk-weaker c.from_slice.result _ _ (λ text e. inr (none, e)) c.from_slice.ensures.items
