use Rattle.std.proofs.lemmas.Result.{IfOk-weaker}
use Rattle.rpki_fields.proofs.cert_text.key.Goals as goal

pub returns : goal.returns
returns c =
    IfOk-weaker c.key_fields.result _ _ (λ fields e. (
      c.in_ok-size.size.items,
      c.in_ok-size.ensures,
      rw c.as_slice.ensures.value at e,
    )) c.key_fields.ensures
