use Rattle.rpki_der.specs.Reading.{Refuses}
use Rattle.rpki_der.proofs.InsideLaws.{unless-memory}
use Rattle.rpki.specs.KeyFormat.{SpellsFormat}
use Rattle.rpki.proofs.AlgorithmFaultLaws.{format-outer}
use Rattle.rpki_c.proofs.SignedLaws.{other-read, other-unread}
use Rattle.rpki_c.proofs.keys.is_other_format.Goals as goal

pub returns-in-Ok : goal.returns-in-Ok
returns-in-Ok c = other-read SpellsFormat c.args.octets.now _ _ (rw c.from_slice-cons.ensures at c.in-Ok.ensures.reads)

pub returns-in-Err : goal.returns-in-Err
returns-in-Err c =
    let s = c.args.octets.now in
    let h = rw c.from_slice-cons.ensures at c.in-Err.ensures.reads in
    let none : Refuses SpellsFormat s = unless-memory _ (format-outer s _ h.kind).other h.refuses in
    other-unread SpellsFormat s _ none c.begins_with_identifier.ensures
