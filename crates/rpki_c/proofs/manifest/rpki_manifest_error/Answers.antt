use Rattle.std.proofs.Common.{inl, refl}
use Rattle.rpki_contents.specs.ManifestView.{parts_in}
use Rattle.rpki_c.proofs.ObjectLaws.{is-listing}
use Rattle.rpki_c.proofs.manifest.rpki_manifest_error.Goals as goal

pub returns-in-Ok : goal.returns-in-Ok
returns-in-Ok c =
    let v = c.in-Ok.field-0 in
    let (xs, at) = c.in-Ok.ensures.ok in
    inl (refl, (parts_in v xs, is-listing c.args.octets.now v xs at), refl)
