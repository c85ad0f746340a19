use Rattle.rpki_x509.proofs.TriedLaws.{tried-fault}
use Rattle.rpki_validation.proofs.NamedLaws.{no-manifest, no-place, the-manifest}
use Rattle.rpki_validation.proofs.named.manifest_of.Goals as goal

pub returns-in_err-place : goal.returns-in_err-place
returns-in_err-place g c = λ published known.
    tried-fault _ _ _ _ c.from_residual.ensures
    (no-place published c.args.strict c.args.tbs.now _ _ c.in_err-place.ensures)

pub returns-in_err-manifest : goal.returns-in_err-manifest
returns-in_err-manifest g c = λ published known.
    tried-fault _ _ _ _ c.from_residual-in_err-manifest.ensures
    (no-manifest published c.args.strict c.args.tbs.now c.in_ok-place.place c.in_ok-place.ensures _ _
    (c.in_err-manifest.ensures published known))

pub returns : goal.returns
returns g c = λ published known.
    the-manifest published c.args.strict c.args.tbs.now c.in_ok-place.place c.in_ok-place.ensures
    c.in_ok-manifest.manifest (c.in_ok-manifest.ensures published known)
