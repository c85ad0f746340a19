use Rattle.rpkivalid.proofs.explained.route_text.Goals as goal

pub returns-clause-told : goal.returns-clause-told
returns-clause-told g c = record {
  found = c.in_ok-unchanged.unchanged.found.payloads.items;
  local = c.in_ok-unchanged.unchanged.local.items;
  unchanged = c.in_ok-unchanged.ensures.unchanged;
  shown = c.in_ok-shown.shown.items;
  excepted = c.in_ok-shown.ensures;
  said = c.in_ok-text.text.items;
  told = rw c.as_slice-3.ensures.value at c.in_ok-text.ensures;
  changes = c.in_ok-changes.changes.items;
  changed = rw (c.as_slice.ensures.value, c.as_slice-2.ensures.value) at c.in_ok-changes.ensures;
  text_is = rw (← c.as_slice-4.ensures.value) c.in_ok-extend_from_slice.ensures.items;
}
