use Rattle.rpkivalid.proofs.explained.explain.Goals as goal

pub returns-in_ok-extend_from_slice-in-Origin-clause-told : goal.returns-in_ok-extend_from_slice-in-Origin-clause-told
returns-in_ok-extend_from_slice-in-Origin-clause-told g c = rw c.in-Origin.is (record {
  said = c.in_ok-said-in-Origin.said.text.items;
  says = c.in_ok-said-in-Origin.ensures.told;
  refused = c.in_ok-told.told.text.items;
  others = c.in_ok-told.told.have_anchors;
  refuses = rw c.in-Origin.is at c.in_ok-told.ensures.told;
  text_is = rw (← c.as_slice.ensures.value) c.in_ok-extend_from_slice-in-Origin.ensures.items;
})
