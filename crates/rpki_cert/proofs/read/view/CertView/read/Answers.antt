use Rattle.std.proofs.Common.{refl}
use Rattle.rpki_cert.specs.View.WholeWrong.{NoFrame}
use Rattle.rpki_cert.proofs.ViewLaws.{contents-handed, contents-handed-wrong, wrong-handed}
use Rattle.rpki_cert.proofs.WrongLaws.{cert-wrong}
use Rattle.rpki_cert.proofs.read.view.CertView.read.Goals as goal

pub returns-in-Err-clause-err : goal.returns-in-Err-clause-err
returns-in-Err-clause-err c =
    let none = rw c.from_slice.ensures at c.in-Err.ensures.gives in
    let fault = rw c.from_slice.ensures at c.in-Err.ensures.fault in
    NoFrame none fault refl

pub returns-in-Err-clause-none : goal.returns-in-Err-clause-none
returns-in-Err-clause-none c = λ x h. (cert-wrong _ _ _ (returns-in-Err-clause-err c) x h).many

pub returns-in-Ok-clause-ok : goal.returns-in-Ok-clause-ok
returns-in-Ok-clause-ok c =
    let h = rw c.from_slice.ensures at c.in-Ok.ensures.gives in
    contents-handed _ _ c.read_contents.result h.0 c.read_contents.ensures.ok

pub returns-in-Ok-clause-err : goal.returns-in-Ok-clause-err
returns-in-Ok-clause-err c =
    let h = rw c.from_slice.ensures at c.in-Ok.ensures.gives in
    contents-handed-wrong _ _ _ c.read_contents.result h.0 c.read_contents.ensures.err

pub returns-in-Ok-clause-none : goal.returns-in-Ok-clause-none
returns-in-Ok-clause-none c = wrong-handed _ _ c.read_contents.result (returns-in-Ok-clause-err c)
