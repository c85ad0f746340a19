use Rattle.rpki_crl.specs.Crl.{list_of}
use Rattle.rpki_issue.proofs.ListLaws.{plan-refused}
use Rattle.rpki_issue.proofs.unsigned_crl.UnsignedCrl.new.Goals as goal

pub returns-in-Err-clause-err : goal.returns-in-Err-clause-err
returns-in-Err-clause-err c = plan-refused (list_of c.args.list) c.in-Err.e c.in-Err.ensures.err
