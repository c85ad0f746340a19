use Rattle.rpki_c.proofs.StatusLaws.{no-key}
use Rattle.rpki_c.proofs.key_writing.kept_key.Goals as goal

pub returns-in-Err-clause-err : goal.returns-in-Err-clause-err
returns-in-Err-clause-err c = no-key c.in-Err.e c.in-Err.ensures c.key_status.ensures
