use Rattle.std.proofs.Common.{rules, arith, refl}
use Rattle.std.proofs.lemmas.Grind.{common_steps}
use Rattle.rpki_contents.specs.ManifestView.IsManifestError.{InParts}
use Rattle.rpki_contents.specs.ManifestView.WholePart.{InFrame, NoFrame}
use Rattle.rpki_contents.proofs.ManifestViewLaws.{out-of-order}
use Rattle.rpki_contents.proofs.manifest_view.ManifestView.read.Goals as goal

pub returns-in-Err-clause-err : goal.returns-in-Err-clause-err
returns-in-Err-clause-err c =
    let gives = rw c.from_slice.ensures at c.in-Err.ensures.gives in
    let fault = rw c.from_slice.ensures at c.in-Err.ensures.fault in
    InParts (NoFrame gives fault refl)

pub returns-then-le-clause-err : goal.returns-then-le-clause-err
returns-then-le-clause-err c =
    let h = rw c.from_slice.ensures at c.in-Ok.ensures.gives in
    out-of-order _ _ c.in-Ok-read_fields.view _ h.0 c.in-Ok-read_fields.ensures.ok
    (λ order. first_of (search rules, grind (arith, common_steps))) (rw c.content-error.ensures refl)

pub returns-in-Err-read_fields-clause-err : goal.returns-in-Err-read_fields-clause-err
returns-in-Err-read_fields-clause-err c =
    let h = rw c.from_slice.ensures at c.in-Ok.ensures.gives in
    InParts (InFrame _ h.0 c.in-Err-read_fields.ensures.err)
