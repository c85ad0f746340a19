use Rattle.std.proofs.Common.{true, inr}
use Rattle.rpki.specs.Checkers.{checkers_of}
use Rattle.rpki_objects.specs.TypedObject.{manifest_object}
use Rattle.rpki_valid.specs.ErrorTexts.{not_inherited_text}
use Rattle.rpki_valid.specs.Valid.{HasReason}
use Rattle.rpki_checked.specs.Objects.{IsInherited}
use Rattle.rpki_checked.specs.Checked.{IsUnfound}
use Rattle.rpki_checked.proofs.ObjectLaws.{not-alone, not-own, own}
use Rattle.rpki_checked.proofs.manifest.check_own.Goals as goal

pub returns-in-Err : goal.returns-in-Err
returns-in-Err g c = IsUnfound.OfReading c.in-Err.e c.in-Err.ensures

pub returns-in-Err-verify_alone : goal.returns-in-Err-verify_alone
returns-in-Err-verify_alone g c =
    let p = g.P.Provider in
    let by = checkers_of p c.args.provider.now in
    not-alone (manifest_object true) by (λ v. IsInherited v) (λ _. HasReason not_inherited_text)
    c.args.octets.now c.in-Ok.manifest c.in-Ok.ensures c.object.result.now c.object.ensures
    c.in-Err-verify_alone.e c.in-Err-verify_alone.ensures

pub returns-in-Ok-verify_own_manifest : goal.returns-in-Ok-verify_own_manifest
returns-in-Ok-verify_own_manifest g c =
    let p = g.P.Provider in
    let by = checkers_of p c.args.provider.now in
    own (manifest_object true) by (λ v. IsInherited v) (λ _. HasReason not_inherited_text)
    c.args.octets.now c.in-Ok.manifest c.in-Ok.ensures c.object.result.now c.object.ensures
    c.in-Ok-verify_alone.ensures c.in-Ok-verify_own_manifest.ensures

pub returns : goal.returns
returns g c =
    let p = g.P.Provider in
    let by = checkers_of p c.args.provider.now in
    not-own (manifest_object true) by (λ v. IsInherited v) (λ _. HasReason not_inherited_text)
    c.args.octets.now c.in-Ok.manifest c.in-Ok.ensures c.object.result.now c.object.ensures
    c.in-Err-verify_own_manifest.e c.in-Ok-verify_alone.ensures (inr c.in-Err-verify_own_manifest.ensures)
