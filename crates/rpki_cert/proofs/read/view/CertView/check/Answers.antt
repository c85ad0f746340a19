use Rattle.rpki_cert.proofs.read.view.CertView.check.Goals as goal

pub returns-in-Ok-test-clause-ok : goal.returns-in-Ok-test-clause-ok
returns-in-Ok-test-clause-ok c = λ s x h.
    let read = c.inspected-inspected.ensures s x h in
    (c.in-Ok.ensures.ok x.tbs.extensions read.values, c.in-Ok-test.ensures x.tbs read)

pub returns-in-Err-test-clause-err : goal.returns-in-Err-test-clause-err
returns-in-Err-test-clause-err c = λ s x h.
    let read = c.inspected-inspected.ensures s x h in
    let broken = c.in-Err-test.ensures x.tbs read in
    ((c.in-Ok.known, c.in-Ok.ensures.ok x.tbs.extensions read.values), broken.0, broken.1)

pub returns-in-Err-clause-err : goal.returns-in-Err-clause-err
returns-in-Err-clause-err c = λ s x h.
    let read = c.inspected-inspected.ensures s x h in
    c.in-Err.ensures.err x.tbs.extensions read.values
