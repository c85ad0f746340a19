use Rattle.std.proofs.Common.{refl, ◌∙◌}
use Rattle.rpki_fields.proofs.other_cert_text.other_fields.Goals as goal

pub returns : goal.returns
returns c = record {
  head = c.in_ok-fields.fields.items;
  middle = c.in_ok-middle.middle.items;
  key = c.in_ok-key.key.items;
  are_head = c.in_ok-fields.ensures;
  are_middle = rw (c.validity.ensures, c.subject.ensures, c.tbs-tbs.ensures) at c.in_ok-middle.ensures;
  are_key = rw (c.key.ensures, c.tbs-tbs.ensures) at c.in_ok-key.ensures;
  parts = c.in_ok-push_field.ensures ∙ rw (
    c.in_ok-append-3.ensures.items,
    c.in_ok-append-2.ensures.items,
    c.in_ok-append.ensures.items,
    c.as_slice.ensures.value,
    c.in_ok-extensions.ensures,
    c.extensions.ensures,
    c.tbs-tbs.ensures,
    c.in_ok-fingerprint.ensures,
  ) refl;
}
