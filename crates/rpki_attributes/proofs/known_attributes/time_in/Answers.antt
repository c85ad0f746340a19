use Rattle.std.proofs.lemmas.Bool.{iff_false}
use Rattle.rpki_time.specs.TimeValue.{time}
use Rattle.rpki_der.proofs.ComposedLaws.{all-read, nothing-after}
use Rattle.rpki_attributes.proofs.SoughtLaws.{nothing-there}
use Rattle.rpki_attributes.proofs.known_attributes.time_in.Goals as goal

pub returns-then-is_empty : goal.returns-then-is_empty
returns-then-is_empty c =
    all-read time.spells _ _ _ c.in-Ok.ensures (c.is_empty.ensures.0 c.if-is_empty.true)

pub returns-else-is_empty : goal.returns-else-is_empty
returns-else-is_empty c =
    nothing-after time.spells _ _ _ c.in-Ok.ensures (iff_false c.is_empty.ensures c.if-is_empty.false)

pub returns-in-Err : goal.returns-in-Err
returns-in-Err c = nothing-there time.spells time.fault _ _ c.in-Err.field-0 (λ h. h) c.in-Err.ensures
