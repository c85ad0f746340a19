use Rattle.std.proofs.Common.{refl, ◌∙◌}
use Rattle.rpki_fields.proofs.cert_text.fields.Goals as goal

pub returns : goal.returns
returns c = record {
  head = c.in_ok-head.head.items;
  middle = c.in_ok-middle.middle.items;
  key = c.in_ok-key.key.items;
  identifiers = c.in_ok-identifiers.identifiers.items;
  uses = c.in_ok-fields.fields.items;
  issuer = c.in_ok-issuer.issuer.items;
  subject = c.in_ok-subject.subject.items;
  resources = c.in_ok-resources.resources.items;
  are_head = c.in_ok-head.ensures;
  are_middle = rw (c.validity.ensures, c.subject.ensures) at c.in_ok-middle.ensures;
  are_key = rw c.subject_public_key_info.ensures at c.in_ok-key.ensures;
  are_identifiers = c.in_ok-identifiers.ensures;
  are_uses = c.in_ok-fields.ensures;
  are_issuer = c.in_ok-issuer.ensures;
  are_subject = c.in_ok-subject.ensures;
  are_resources = c.in_ok-resources.ensures;
  parts = c.in_ok-push_field.ensures ∙ rw (
    c.in_ok-append-8.ensures.items,
    c.in_ok-append-7.ensures.items,
    c.in_ok-append-6.ensures.items,
    c.in_ok-append-5.ensures.items,
    c.in_ok-append-4.ensures.items,
    c.in_ok-append-3.ensures.items,
    c.in_ok-append-2.ensures.items,
    c.in_ok-append.ensures.items,
    c.as_slice.ensures.value,
    c.in_ok-extensions.ensures,
    c.extensions.ensures,
    c.in_ok-fingerprint.ensures,
  ) refl;
}
