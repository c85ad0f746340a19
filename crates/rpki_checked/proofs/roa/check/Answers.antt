use Rattle.rpki_checked.specs.Checked.{IsUnfound}
use Rattle.rpki_checked.proofs.roa.check.Goals as goal

pub returns-in-Err : goal.returns-in-Err
returns-in-Err g c = IsUnfound.OfReading c.in-Err.e c.in-Err.ensures

pub returns-in-Ok-process_roa : goal.returns-in-Ok-process_roa
returns-in-Ok-process_roa g c = record {
  value = c.in-Ok.roa;
  one = c.in-Ok.ensures;
  valid = record {
    held = c.in-Ok-process_roa.held;
    processed = c.in-Ok-process_roa.ensures.exactly;
    path = c.in-Ok-process_roa.ensures.path;
    within = c.in-Ok-process_roa.ensures.within;
  };
}

pub returns : goal.returns
returns g c =
    IsUnfound.OfRules c.in-Ok.roa c.in-Err-process_roa.e c.in-Ok.ensures c.in-Err-process_roa.ensures.exactly
