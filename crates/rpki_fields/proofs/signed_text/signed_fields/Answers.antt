use Rattle.std.proofs.Common.{refl, ◌∙◌}
use Rattle.rpki_fields.proofs.signed_text.signed_fields.Goals as goal

pub returns : goal.returns
returns c = record {
  keys = c.in_ok-keys.keys.items;
  names = c.in_ok-names.names.items;
  places = c.in_ok-places.places.items;
  are_keys = rw (c.tbs-tbs.ensures, c.cert.ensures) at c.in_ok-keys.ensures;
  are_names = rw (c.tbs-tbs.ensures, c.cert.ensures) at c.in_ok-names.ensures;
  are_places = rw (c.tbs-tbs.ensures, c.cert.ensures) at c.in_ok-places.ensures;
  parts = c.in_ok-append-4.ensures.items ∙ rw (
    c.in_ok-append-3.ensures.items,
    c.in_ok-append-2.ensures.items,
    c.in_ok-append.ensures.items,
    c.in_ok-push_field.ensures,
    c.new-fields.ensures.items,
    c.in_ok-times.ensures,
  ) refl;
}
