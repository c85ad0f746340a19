use Rattle.std.proofs.Common.{true}
use Rattle.rpki.specs.Checkers.{checkers_of}
use Rattle.rpki_objects.specs.TypedObject.{aspa_object}
use Rattle.rpki_valid.specs.Processed.{KeepsOwnAspaRules, IsOwnAspaError}
use Rattle.rpki_checked.specs.Checked.{IsUnfound}
use Rattle.rpki_checked.proofs.ObjectLaws.{not-alone, not-own, own}
use Rattle.rpki_checked.proofs.aspa.check_own.Goals as goal

pub returns-in-Err : goal.returns-in-Err
returns-in-Err g c = IsUnfound.OfReading c.in-Err.e c.in-Err.ensures

pub returns-in-Err-verify_alone : goal.returns-in-Err-verify_alone
returns-in-Err-verify_alone g c =
    let p = g.P.Provider in
    let by = checkers_of p c.args.provider.now in
    not-alone (aspa_object true) by (λ v. KeepsOwnAspaRules v) (λ v. IsOwnAspaError v)
    c.args.octets.now c.in-Ok.aspa c.in-Ok.ensures c.object.result.now c.object.ensures
    c.in-Err-verify_alone.e c.in-Err-verify_alone.ensures

pub returns-in-Ok-verify_own_aspa : goal.returns-in-Ok-verify_own_aspa
returns-in-Ok-verify_own_aspa g c =
    let p = g.P.Provider in
    let by = checkers_of p c.args.provider.now in
    own (aspa_object true) by (λ v. KeepsOwnAspaRules v) (λ v. IsOwnAspaError v)
    c.args.octets.now c.in-Ok.aspa c.in-Ok.ensures c.object.result.now c.object.ensures
    c.in-Ok-verify_alone.ensures c.in-Ok-verify_own_aspa.ensures

pub returns : goal.returns
returns g c =
    let p = g.P.Provider in
    let by = checkers_of p c.args.provider.now in
    not-own (aspa_object true) by (λ v. KeepsOwnAspaRules v) (λ v. IsOwnAspaError v)
    c.args.octets.now c.in-Ok.aspa c.in-Ok.ensures c.object.result.now c.object.ensures
    c.in-Err-verify_own_aspa.e c.in-Ok-verify_alone.ensures c.in-Err-verify_own_aspa.ensures
