use Rattle.std.proofs.Common.{◌∙◌, rules, inl, ap, length, sym}
use Rattle.rpki_crl.proofs.EntriesLaws.{no-entries, no-sequence, entries-there, entry-fault, sequence-fault}
use Rattle.rpki_crl.proofs.entries.take_revoked.Goals as goal

pub returns-in-Err-read_entries : goal.returns-in-Err-read_entries
returns-in-Err-read_entries c =
    let h = c.in-Err-read_entries.ensures in
    (c.has_tag.ensures.0 (search rules), no-entries _ _ _ c.in-Ok.ensures h.0, entry-fault _ _ _ _ c.in-Ok.ensures h.1)

pub returns-in-Ok-read_entries : goal.returns-in-Ok-read_entries
returns-in-Ok-read_entries c =
    let found = c.in-Ok-read_entries.ensures in
    let list = entries-there _ _ _ c.in-Ok.ensures found.0 found.1 in
    inl (
      c.has_tag.ensures.0 (search rules),
      found.0,
      list.0,
      record { octets = c.rest-in-Ok.ensures ∙ sym list.1; following = ap length c.rest-in-Ok-2.ensures },
    )

pub returns-in-Err : goal.returns-in-Err
returns-in-Err c =
    let h = c.in-Err.ensures in
    (c.has_tag.ensures.0 (search rules), no-sequence _ _ c.in-Err.e h, sequence-fault _ _ _ h)
