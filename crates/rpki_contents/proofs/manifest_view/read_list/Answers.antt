use Rattle.std.proofs.Common.{refl}
use Rattle.rpki_contents.specs.ManifestView.WholePart.{NoFrame}
use Rattle.rpki_contents.proofs.ManifestViewLaws.{list-handed}
use Rattle.rpki_contents.proofs.manifest_view.read_list.Goals as goal

pub returns-in-Ok : goal.returns-in-Ok
returns-in-Ok c =
    let ok = rw c.rest.ensures at c.of.ensures.ok in
    let err = rw c.rest.ensures at c.of.ensures.err in
    list-handed _ _ c.of.result c.in-Ok.ensures.gives.0 ok err

pub returns-in-Err : goal.returns-in-Err
returns-in-Err c = NoFrame c.in-Err.ensures.gives c.in-Err.ensures.fault refl
