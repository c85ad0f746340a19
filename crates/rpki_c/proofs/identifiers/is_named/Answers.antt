use Rattle.rpki_der.specs.Cursor.{left}
use Rattle.rpki_c.proofs.SignedLaws.{named-read, named-unread}
use Rattle.rpki_c.proofs.identifiers.is_named.Goals as goal

pub returns-in-Ok : goal.returns-in-Ok
returns-in-Ok c = named-read (left c.args.contents) _ _ _ c.in-Ok.ensures c.are_parameters.ensures

pub returns-in-Err : goal.returns-in-Err
returns-in-Err c = named-unread (left c.args.contents) _ _ c.in-Err.ensures
