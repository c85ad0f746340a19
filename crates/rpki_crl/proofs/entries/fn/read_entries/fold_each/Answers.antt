use Rattle.std.proofs.Common.{refl}
use Rattle.rpki_der.specs.Fold.FoldFault.{AtValue}
use Rattle.rpki_crl.proofs.entries.fn.read_entries.fold_each.Goals as goal

pub returns-in-Err : goal.returns-in-Err
returns-in-Err c = λ some. AtValue some c.in-Err.ensures.refuses c.in-Err.ensures.kind

pub returns-in-Some : goal.returns-in-Some
returns-in-Some c =
    rw (← c.rest.ensures, c.from_slice.ensures) (c.in-Some.ensures.0, c.in-Some.ensures.1, refl)
