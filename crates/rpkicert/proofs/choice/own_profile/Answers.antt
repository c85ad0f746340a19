use Rattle.rpkicert.proofs.choice.own_profile.Goals as goal

pub returns : goal.returns
returns c = record {
  end = c.obeys-end.result;
  router = c.obeys-router.result;
  detached = c.obeys-detached.result;
  self_issued = c.obeys-self_issued.result;
  own_key = c.obeys-own_key.result;
  of_end = c.obeys-end.ensures;
  of_router = c.obeys-router.ensures;
  of_access = c.obeys-detached.ensures;
  of_issuer = c.obeys-self_issued.ensures;
  of_key = c.obeys-own_key.ensures;
  by_marks = c.profile_by.ensures;
}
