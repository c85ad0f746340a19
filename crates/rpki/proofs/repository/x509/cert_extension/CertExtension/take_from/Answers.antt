use Rattle.rpki_der.specs.NestedFault.{IsCaptureFault}
use Rattle.rpki_der.specs.Prelude.{HasEither, OrMemoryWhere}
use Rattle.rpki.proofs.ExtensionLaws.{captured-spelled, extension-captured}
use Rattle.rpki.proofs.ExtensionFaultLaws.{uncaptured, behind-parts, unkept}
use Rattle.rpki.proofs.repository.x509.cert_extension.CertExtension.take_from.Goals as goal

pub invariant_of-result : goal.invariant_of-result
invariant_of-result g c = captured-spelled c.in-Ok.ensures c.in-Ok-capture_one.ensures.reads

pub returns-in-Ok-capture_one : goal.returns-in-Ok-capture_one
returns-in-Ok-capture_one g c = extension-captured c.in-Ok.ensures c.in-Ok-capture_one.ensures.reads

pub returns-in-Err-capture_one : goal.returns-in-Err-capture_one
returns-in-Err-capture_one g c =
    unkept (OrMemoryWhere HasEither IsCaptureFault) c.in-Err-capture_one.e c.in-Ok.ensures
    c.in-Err-capture_one.ensures.reads

pub returns-in-Err-Trailing : goal.returns-in-Err-Trailing
returns-in-Err-Trailing g c =
    behind-parts _ _ c.error_behind.result (rw c.in-Err-Trailing.field-0-is at c.in-Err-Trailing.ensures)
    c.error_behind.ensures

pub returns-in-Err : goal.returns-in-Err
returns-in-Err g c = uncaptured _ _ c.in-Err.e c.in-Err.ensures
