use Rattle.std.proofs.lemmas.Bool.{iff_false}
use Rattle.rpki_der.specs.Cursor.{left}
use Rattle.rpki_resources.proofs.UnreadLaws.{is-inherit, behind-null, not-null, is-list}
use Rattle.rpki_resources.proofs.frames.find_choice.Goals as goal

pub returns-then-is_empty-clause-some : goal.returns-then-is_empty-clause-some
returns-then-is_empty-clause-some c = λ kind v. is-inherit kind (left c.args.octets)
    (c.has_tag.ensures.0 c.if-has_tag.true) _ c.in-Ok.ensures (c.is_empty.ensures.0 c.if-is_empty.true) v

pub returns-in-Ok-clause-none : goal.returns-in-Ok-clause-none
returns-in-Ok-clause-none c = λ kind. behind-null kind (left c.args.octets) (c.has_tag.ensures.0 c.if-has_tag.true) _
    c.in-Ok.ensures (iff_false c.is_empty.ensures c.if-is_empty.false)

pub returns-in-Err-clause-none : goal.returns-in-Err-clause-none
returns-in-Err-clause-none c = λ kind. not-null kind (left c.args.octets) (c.has_tag.ensures.0 c.if-has_tag.true) _
    c.in-Err.field-0 c.in-Err.ensures

pub returns-in-Some-clause-some : goal.returns-in-Some-clause-some
returns-in-Some-clause-some c = λ kind v. is-list kind (left c.args.octets)
    (iff_false c.has_tag.ensures c.if-has_tag.false) c.in-Some.contents c.in-Some.ensures.some v
