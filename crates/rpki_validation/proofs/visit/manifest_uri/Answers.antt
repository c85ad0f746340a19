use Rattle.rpki_validation.proofs.PlaceLaws.{place-found, place-none}
use Rattle.rpki_validation.specs.Publication.{HasManifest}
use Rattle.rpki_validation.proofs.visit.manifest_uri.Goals as goal

pub returns-in-Ok : goal.returns-in-Ok
returns-in-Ok c = place-found (HasManifest c.args.tbs.now) c.in-Ok.uri c.in-Ok.ensures

pub returns : goal.returns
returns c =
    let h = rw c.in-Err-Rejected.field-0-is at c.in-Err-Rejected.ensures in
    place-none (HasManifest c.args.tbs.now) h.0
