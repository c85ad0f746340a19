use Rattle.rpki_c.proofs.CertificateLaws.{refused-as}
use Rattle.rpki_c.proofs.below.profiled.Goals as goal

pub returns-in-Err-clause-err : goal.returns-in-Err-clause-err
returns-in-Err-clause-err c = λ s x h.
    refused-as x h.spelled c.in-Err.error (c.in-Err.ensures.err s x h) c.check_number.ensures
