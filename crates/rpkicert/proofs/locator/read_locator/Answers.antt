use Rattle.rpkicert.specs.Locator.IsNoLocator.{Wrong}
use Rattle.rpkicert.proofs.locator.read_locator.Goals as goal

pub returns-in-Ok : goal.returns-in-Ok
returns-in-Ok c = c.sheet_of.ensures c.in-Ok.ensures.ok

pub returns-in-Err : goal.returns-in-Err
returns-in-Err c = Wrong c.in-Err.e c.in-Err.ensures.err c.no_locator.ensures
