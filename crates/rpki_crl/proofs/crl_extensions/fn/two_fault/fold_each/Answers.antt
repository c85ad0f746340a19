use Rattle.std.proofs.Common.{refl}
use Rattle.rpki_der.specs.Fold.FoldFault.{AtValue}
use Rattle.rpki_crl.proofs.crl_extensions.fn.two_fault.fold_each.Goals as goal

pub returns-in-Ok : goal.returns-in-Ok
returns-in-Ok c = (_, c.in-Ok.ensures, refl)

pub returns-in-Err : goal.returns-in-Err
returns-in-Err c = λ some. AtValue some c.in-Err.ensures.refuses c.in-Err.ensures.kind
