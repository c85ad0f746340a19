use Rattle.rpkivalid.proofs.explained.refused_under.Goals as goal

pub returns : goal.returns
returns g c = record {
  found = c.in_ok-found.found;
  found_is = c.in_ok-found.ensures;
  text_is = rw c.as_str-name.ensures.value at c.in_ok-text.ensures;
  anchored_is = c.is_found.ensures;
}
