use Rattle.std.proofs.lemmas.Bool.{iff_false}
use Rattle.rpki_crl.proofs.TwoLaws.{no-tag, no-sequence, none-inside, more-inside, more-after, extensions-read}
use Rattle.rpki_crl.proofs.crl_extensions.read_extensions.Goals as goal

pub returns-in-Err : goal.returns-in-Err
returns-in-Err c = no-tag _ _ _ (rw c.new.ensures at c.in-Err.ensures)

pub returns-in-Err-take_sequence : goal.returns-in-Err-take_sequence
returns-in-Err-take_sequence c =
    no-sequence _ _ _ (rw c.new.ensures at c.in-Ok.ensures) _ _ c.in-Err-take_sequence.ensures

pub two_fault-requires : goal.two_fault-requires
two_fault-requires c = c.in-None.ensures

pub returns-in-None : goal.returns-in-None
returns-in-None c =
    none-inside _ _ _ (rw c.new.ensures at c.in-Ok.ensures) _ _ c.in-Ok-take_sequence.ensures _ c.two_fault.ensures

pub returns-then-not-is_empty : goal.returns-then-not-is_empty
returns-then-not-is_empty c =
    more-inside _ _ _ (rw c.new.ensures at c.in-Ok.ensures) _ _ c.in-Ok-take_sequence.ensures _ c.in-Some.ensures
    (iff_false c.is_empty.ensures c.if-not-is_empty.true)

pub returns-then-not-is_empty-2 : goal.returns-then-not-is_empty-2
returns-then-not-is_empty-2 c =
    more-after _ _ _ (rw c.new.ensures at c.in-Ok.ensures) _ _ c.in-Ok-take_sequence.ensures _ c.in-Some.ensures
    (c.is_empty.ensures.0 c.if-not-is_empty.false) (iff_false c.is_empty-2.ensures c.if-not-is_empty-2.true)

pub returns : goal.returns
returns c =
    extensions-read _ _ _ (rw c.new.ensures at c.in-Ok.ensures) _ _ c.in-Ok-take_sequence.ensures _ c.in-Some.ensures
    (c.is_empty.ensures.0 c.if-not-is_empty.false) (c.is_empty-2.ensures.0 c.if-not-is_empty-2.false)
