use Rattle.std.proofs.Common.{take}
use Rattle.rpki_crl.specs.Crl.{entries_in}
use Rattle.rpki_fields.specs.EachIs.{EachIs}
use Rattle.rpki_fields.specs.ListText.{IsEntryItem}
use Rattle.rpki_fields.proofs.list_text.entry_items.Given as goal

abbrev pub invariant-entries : goal.invariant-entries
invariant-entries l = EachIs IsEntryItem (entries_in (take l.entry-index l.entries)) l.items.items
