use Rattle.rpki_crl.specs.Crl.{list_of}
use Rattle.rpki_issue.proofs.ListLaws.{revoked-refused}
use Rattle.rpki_issue.proofs.crl_written.put_all.Goals as goal

pub returns-in-Err-clause-err : goal.returns-in-Err-clause-err
returns-in-Err-clause-err c = revoked-refused (list_of c.args.list.now) c.in-Err.e c.in-Err.ensures.err
