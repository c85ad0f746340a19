use Rattle.rpki_der.proofs.TriedLaws.{tried-refused}
use Rattle.rpki_contents.specs.Manifest.{manifest}
use Rattle.rpki_contents.proofs.ManifestLaws.{not-read, not-manifest, is-manifest}
use Rattle.rpki_contents.proofs.manifest.ManifestContent.take_from.Goals as goal

pub returns-in_err-fields : goal.returns-in_err-fields
returns-in_err-fields g c =
    tried-refused (λ x. x) manifest.spells manifest.fault _ _ _ _ c.from_residual.ensures
    (not-read c.in_err-fields.ensures)

pub returns-in-Ok : goal.returns-in-Ok
returns-in-Ok g c = is-manifest c.in_ok-fields.ensures c.in-Ok.ensures

pub returns-in-Err : goal.returns-in-Err
returns-in-Err g c = not-manifest c.in_ok-fields.ensures c.in-Err.ensures
