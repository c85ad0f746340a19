use Rattle.rpkivalid.proofs.excepted.push_exceptions.Goals as goal

pub returns-clause-ok : goal.returns-clause-ok
returns-clause-ok g c = record {
  named = c.in_ok-named.named;
  is = c.in_ok-named.ensures.ok;
  added = c.in_ok-push.ensures.items;
}
