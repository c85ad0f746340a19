use Rattle.std.proofs.Common.{◌∙◌, ap}
use Rattle.rpki.specs.Checkers.{checkers_of}
use Rattle.rpki_cert.specs.Cert.{CertParts}
use Rattle.rpki_checked.proofs.ObjectLaws.{no-profile, no-signature, alone}
use Rattle.rpki_checked.proofs.object.verify_alone.Goals as goal

pub returns-in-Err : goal.returns-in-Err
returns-in-Err g c =
    let p = g.P.Provider in
    let by = checkers_of p c.args.provider.now in
    let same = c.tbs.ensures ∙ ap (λ (k : CertParts). k.tbs) c.cert.ensures in
    no-profile by c.args.object.now c.tbs.result.now same c.in-Err.e c.in-Err.ensures

pub returns-in-Ok-verify_object_signature : goal.returns-in-Ok-verify_object_signature
returns-in-Ok-verify_object_signature g c =
    let p = g.P.Provider in
    let by = checkers_of p c.args.provider.now in
    let same = c.tbs.ensures ∙ ap (λ (k : CertParts). k.tbs) c.cert.ensures in
    alone by c.args.object.now c.tbs.result.now same c.in-Ok.ensures
    c.in-Ok-verify_object_signature.ensures

pub returns-in-Err-verify_object_signature : goal.returns-in-Err-verify_object_signature
returns-in-Err-verify_object_signature g c =
    let p = g.P.Provider in
    let by = checkers_of p c.args.provider.now in
    let same = c.tbs.ensures ∙ ap (λ (k : CertParts). k.tbs) c.cert.ensures in
    no-signature by c.args.object.now c.tbs.result.now same
    c.in-Err-verify_object_signature.e c.in-Ok.ensures c.in-Err-verify_object_signature.ensures
