use Rattle.std.proofs.lemmas.Result.{IfOk-weaker, IfErr-weaker}
use Rattle.rpki_cert.proofs.extension.table.ExtensionTable.known.Goals as goal

pub returns-clause-ok : goal.returns-clause-ok
returns-clause-ok c = IfOk-weaker c.known.result _ _ (λ v h xs k. h xs (record {
  constraints = rw (c.find.ensures xs k) at c.constraints_in.ensures;
  subject = rw (c.find-2.ensures xs k) at c.said.ensures;
  authority = rw (c.find-3.ensures xs k) at c.said-2.ensures;
  usage = rw (c.find-4.ensures xs k) at c.said-3.ensures;
  policy = rw (c.find-5.ensures xs k) at c.said-4.ensures;
})) c.known.ensures.ok

pub returns-clause-err : goal.returns-clause-err
returns-clause-err c = IfErr-weaker c.known.result _ _ (λ q h xs k. h xs (record {
  constraints = rw (c.find.ensures xs k) at c.constraints_in.ensures;
  subject = rw (c.find-2.ensures xs k) at c.said.ensures;
  authority = rw (c.find-3.ensures xs k) at c.said-2.ensures;
  usage = rw (c.find-4.ensures xs k) at c.said-3.ensures;
  policy = rw (c.find-5.ensures xs k) at c.said-4.ensures;
})) c.known.ensures.err
