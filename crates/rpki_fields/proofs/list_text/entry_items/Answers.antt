use Rattle.rpki_crl.specs.Crl.{entry_of}
use Rattle.rpki_fields.specs.ListText.{IsEntryItem}
use Rattle.rpki_fields.proofs.EachIsLaws.{each-taken}
use Rattle.rpki_fields.proofs.list_text.entry_items.Goals as goal

pub entries-preserved : goal.entries-preserved
entries-preserved c =
    rw c.in_ok-push.ensures.items
    (each-taken IsEntryItem entry_of c.args.entries.now c.entries.entry-index c.entry-item.result c.entries.items.items
    c.in_ok-item.item c.entries-test.true c.entry-item.is c.entries.invariant c.in_ok-item.ensures)
