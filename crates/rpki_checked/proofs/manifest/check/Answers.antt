use Rattle.rpki_checked.specs.Checked.{IsUnfound}
use Rattle.rpki_checked.proofs.manifest.check.Goals as goal

pub returns-in-Err : goal.returns-in-Err
returns-in-Err g c = IsUnfound.OfReading c.in-Err.e c.in-Err.ensures

pub returns-in-Ok-process_manifest : goal.returns-in-Ok-process_manifest
returns-in-Ok-process_manifest g c = record {
  value = c.in-Ok.manifest;
  one = c.in-Ok.ensures;
  valid = record {
    held = c.in-Ok-process_manifest.held;
    processed = c.in-Ok-process_manifest.ensures.exactly;
    path = c.in-Ok-process_manifest.ensures.path;
    within = c.in-Ok-process_manifest.ensures.within;
  };
}

pub returns : goal.returns
returns g c =
    IsUnfound.OfRules c.in-Ok.manifest c.in-Err-process_manifest.e c.in-Ok.ensures
    c.in-Err-process_manifest.ensures.exactly
