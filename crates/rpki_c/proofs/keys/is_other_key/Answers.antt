use Rattle.rpki.specs.KeyFormat.{SpellsFormat}
use Rattle.rpki_c.specs.Identifier.{IsOther}
use Rattle.rpki_c.proofs.SignedLaws.{first-read, first-unread}
use Rattle.rpki_c.proofs.keys.is_other_key.Goals as goal

pub returns-in-Ok : goal.returns-in-Ok
returns-in-Ok c = first-read (IsOther SpellsFormat) c.args.octets.now _ _ _
    (rw c.from_slice-cons.ensures at c.in-Ok.ensures) (rw c.rest.ensures at c.is_other_format.ensures)

pub returns-in-Err : goal.returns-in-Err
returns-in-Err c = first-unread (IsOther SpellsFormat) c.args.octets.now _ _
    (rw c.from_slice-cons.ensures at c.in-Err.ensures)
