use Rattle.rpki_der.proofs.ComposedLaws.{all-read, more-left, not-read}
use Rattle.rpki_cert.proofs.extension.accessors.value_of.Goals as goal

pub returns-in-Ok-finish : goal.returns-in-Ok-finish
returns-in-Ok-finish g c = all-read _ _ _ _ c.in-Ok.ensures c.in-Ok-finish.ensures

pub returns-in-Err-finish : goal.returns-in-Err-finish
returns-in-Err-finish g c =
    let (same, some) = c.in-Err-finish.ensures in
    rw same (more-left _ g.T.ExtensionContent.content.fault _ _ _ c.in-Ok.ensures some)

pub returns-in-Err : goal.returns-in-Err
returns-in-Err g c = not-read _ _ _ _ _ c.in-Err.ensures
