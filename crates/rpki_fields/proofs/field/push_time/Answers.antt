use Rattle.rpki_fields.proofs.field.push_time.Goals as goal

pub returns : goal.returns
returns c = rw (c.time_text.ensures, c.as_slice.ensures.value, c.in_ok-seconds.ensures) at c.push_json.ensures
