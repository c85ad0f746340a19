use Rattle.std.proofs.Common.{refl}
use Rattle.rpki_cert.specs.View.WholeWrong.{NoFrame, InFrame}
use Rattle.rpki_cert.proofs.ListedLaws.{list-handed, list-handed-wrong}
use Rattle.rpki_cert.proofs.read.extension_list.read_extensions.Goals as goal

pub returns-in-Err-clause-err : goal.returns-in-Err-clause-err
returns-in-Err-clause-err c =
    let none = rw c.new.ensures at c.in-Err.ensures.gives in
    let fault = rw c.new.ensures at c.in-Err.ensures.fault in
    NoFrame none fault refl

pub returns-in-Err-inside-clause-err : goal.returns-in-Err-inside-clause-err
returns-in-Err-inside-clause-err c =
    let outer = rw c.new.ensures at c.in-Ok.ensures.gives in
    InFrame _ outer.0 (NoFrame c.in-Err-inside.ensures.gives c.in-Err-inside.ensures.fault refl)

pub returns-clause-ok : goal.returns-clause-ok
returns-clause-ok c =
    let outer = rw c.new.ensures at c.in-Ok.ensures.gives in
    list-handed _ _ _ c.read_list.result outer c.in-Ok-inside.ensures.gives c.read_list.ensures.ok

pub returns-clause-err : goal.returns-clause-err
returns-clause-err c =
    let outer = rw c.new.ensures at c.in-Ok.ensures.gives in
    list-handed-wrong _ _ _ _ c.read_list.result outer c.in-Ok-inside.ensures.gives c.read_list.ensures.err
