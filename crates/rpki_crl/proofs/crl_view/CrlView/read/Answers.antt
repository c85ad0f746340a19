use Rattle.std.proofs.Common.{refl}
use Rattle.std.proofs.lemmas.Bool.{iff_false}
use Rattle.rpki_crl.specs.CrlView.IsCrlError.{NoList, NoSigned}
use Rattle.rpki_crl.proofs.crl_view.CrlView.read.Goals as goal

pub returns-in-Err-clause-err : goal.returns-in-Err-clause-err
returns-in-Err-clause-err c =
    let h = rw c.from_slice.ensures at c.in-Err.ensures.gives in
    let k = rw c.from_slice.ensures at c.in-Err.ensures.fault in
    NoList h k refl

pub returns-in-None-clause-err : goal.returns-in-None-clause-err
returns-in-None-clause-err c =
    let h = rw c.from_slice.ensures at c.in-Ok.ensures.gives in
    NoSigned _ h.0 c.in-None.ensures c.value_fault.ensures refl

pub value_fault-requires : goal.value_fault-requires
value_fault-requires c = c.in-None.ensures

pub returns-in-Ok-read_behind-clause-ok : goal.returns-in-Ok-read_behind-clause-ok
returns-in-Ok-read_behind-clause-ok c =
    let h = rw c.from_slice.ensures at c.in-Ok.ensures.gives in
    let t = rw c.in-Some.ensures.0 at h.0 in
    c.in-Ok-read_behind.ensures.ok _ t

pub returns-then-is_value-clause-err : goal.returns-then-is_value-clause-err
returns-then-is_value-clause-err c =
    let h = rw c.from_slice.ensures at c.in-Ok.ensures.gives in
    let t = rw c.in-Some.ensures.0 at h.0 in
    c.in-Err-read_behind.ensures.err _ t (c.is_value.ensures.0 c.if-is_value.true)

pub value_fault-requires-else-is_value : goal.value_fault-requires-else-is_value
value_fault-requires-else-is_value c =
    c.in-Some.ensures.1 (iff_false c.is_value.ensures c.if-is_value.false)

pub returns-else-is_value-clause-err : goal.returns-else-is_value-clause-err
returns-else-is_value-clause-err c =
    let h = rw c.from_slice.ensures at c.in-Ok.ensures.gives in
    NoSigned _ h.0 (c.in-Some.ensures.1 (iff_false c.is_value.ensures c.if-is_value.false))
    c.value_fault-else-is_value.ensures refl
