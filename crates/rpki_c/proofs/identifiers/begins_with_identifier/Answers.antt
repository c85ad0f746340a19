use Rattle.rpki_c.proofs.SignedLaws.{identifier-read, identifier-unread}
use Rattle.rpki_c.proofs.identifiers.begins_with_identifier.Goals as goal

pub returns-in-Ok : goal.returns-in-Ok
returns-in-Ok c = identifier-read c.args.octets.now _ _ _ (rw c.from_slice-cons.ensures at c.in-Ok.ensures)
    c.is_named.ensures

pub returns-in-Err : goal.returns-in-Err
returns-in-Err c = identifier-unread c.args.octets.now _ _ (rw c.from_slice-cons.ensures at c.in-Err.ensures)
