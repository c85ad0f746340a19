use Rattle.rpkicert.specs.RequirementsView.{terms_of}
use Rattle.rpkicert.proofs.output.show.Goals as goal

pub returns-in-Ok : goal.returns-in-Ok
returns-in-Ok c = rw c.in-Ok.is c.good.ensures

pub returns-in-Err : goal.returns-in-Err
returns-in-Err c = rw c.in-Err.is (c.bad.ensures (terms_of c.args.terms.now))
