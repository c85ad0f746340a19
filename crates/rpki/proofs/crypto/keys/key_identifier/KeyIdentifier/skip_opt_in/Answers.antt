use Rattle.rpki.proofs.KeyIdentifierLaws.{any-read, any-refused}
use Rattle.rpki.proofs.crypto.keys.key_identifier.KeyIdentifier.skip_opt_in.Goals as goal

pub returns-in-Ok-Some : goal.returns-in-Ok-Some
returns-in-Ok-Some c =
    let h = rw c.in-Ok-Some.field-0-is at c.in-Ok-Some.ensures in
    (h.0, any-read _ _ _ h.1)

pub returns-in-Err : goal.returns-in-Err
returns-in-Err c = (c.in-Err.ensures.0, any-refused _ _ c.in-Err.e c.in-Err.ensures.1)
