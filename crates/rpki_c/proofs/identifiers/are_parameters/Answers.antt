use Rattle.std.proofs.lemmas.Bool.{iff_false}
use Rattle.rpki_der.specs.Cursor.{left}
use Rattle.rpki_c.proofs.SignedLaws.{parameters-read, parameters-unread}
use Rattle.rpki_c.proofs.identifiers.are_parameters.Goals as goal

pub returns-in-Ok : goal.returns-in-Ok
returns-in-Ok c = parameters-read (left c.args.contents) _ _ _ (iff_false c.is_empty.ensures c.if-is_empty.false)
    c.in-Ok.ensures c.is_empty-in-Ok.ensures

pub returns-in-Err : goal.returns-in-Err
returns-in-Err c = parameters-unread (left c.args.contents) _ _ (iff_false c.is_empty.ensures c.if-is_empty.false)
    c.in-Err.ensures
