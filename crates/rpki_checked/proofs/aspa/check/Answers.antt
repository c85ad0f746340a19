use Rattle.rpki_checked.specs.Checked.{IsUnfound}
use Rattle.rpki_checked.proofs.aspa.check.Goals as goal

pub returns-in-Err : goal.returns-in-Err
returns-in-Err g c = IsUnfound.OfReading c.in-Err.e c.in-Err.ensures

pub returns-in-Ok-process_aspa : goal.returns-in-Ok-process_aspa
returns-in-Ok-process_aspa g c = record {
  value = c.in-Ok.aspa;
  one = c.in-Ok.ensures;
  valid = record {
    held = c.in-Ok-process_aspa.held;
    processed = c.in-Ok-process_aspa.ensures.exactly;
    path = c.in-Ok-process_aspa.ensures.path;
    within = c.in-Ok-process_aspa.ensures.within;
  };
}

pub returns : goal.returns
returns g c =
    IsUnfound.OfRules c.in-Ok.aspa c.in-Err-process_aspa.e c.in-Ok.ensures c.in-Err-process_aspa.ensures.exactly
