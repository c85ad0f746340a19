use Rattle.std.proofs.lemmas.Bool.{false≢true}
use Rattle.rpki_cert.proofs.KeyLaws.{key-there, key-in, key-none}
use Rattle.rpki_cert.proofs.profile.key_rule.is_rsa_key.Goals as goal

pub returns-in-Ok : goal.returns-in-Ok
returns-in-Ok c =
    let h = rw c.from_slice.ensures at c.in-Ok.ensures.gives in
    (λ z. key-there _ _ h.0 (c.are_rsa_parts.ensures.0 z), λ k. c.are_rsa_parts.ensures.1 (key-in _ _ h.1 k))

pub returns-in-Err : goal.returns-in-Err
returns-in-Err c = let h = rw c.from_slice.ensures
    at c.in-Err.ensures.gives in (λ z. absurd (false≢true z), λ k. absurd (key-none _ h k))
