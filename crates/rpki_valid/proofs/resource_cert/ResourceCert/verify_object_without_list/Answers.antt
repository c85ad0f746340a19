use Rattle.std.proofs.Common.{None}
use Rattle.rpki_valid.specs.Verified.{verified_by}
use Rattle.rpki_x509.proofs.TriedLaws.{tried-fault}
use Rattle.rpki_valid.proofs.ObjectVerifiedLaws.{not-signed, cert-decides}
use Rattle.rpki_valid.proofs.resource_cert.ResourceCert.verify_object_without_list.Goals as goal

pub returns-in_err-verify_object_signature-clause-exactly : goal.returns-in_err-verify_object_signature-clause-exactly
returns-in_err-verify_object_signature-clause-exactly g c =
    let v = verified_by g.P.Provider c.args.self.now in
    let unsigned = rw c.provider.ensures at c.in_err-verify_object_signature.ensures in
    tried-fault _ _ _ _ c.from_residual.ensures
    (not-signed None v c.args.at c.args.object.now _ unsigned)

pub returns-clause-exactly : goal.returns-clause-exactly
returns-clause-exactly g c =
    let v = verified_by g.P.Provider c.args.self.now in
    let signed = rw c.provider.ensures at c.in_ok-verify_object_signature.ensures in
    let cert = rw c.cert.ensures at c.verify_ee_without_list.ensures.exactly in
    cert-decides None v c.args.at c.args.object.now _ signed cert
