use Rattle.std.proofs.Common.{Some}
use Rattle.rpki_valid.specs.Verified.{verified_by}
use Rattle.rpki_x509.proofs.TriedLaws.{tried-fault}
use Rattle.rpki_valid.proofs.ObjectVerifiedLaws.{not-signed, cert-decides}
use Rattle.rpki_valid.proofs.current_crl.CurrentCrl.verify_object.Goals as goal

pub returns-in_err-verify_object_signature-clause-exactly : goal.returns-in_err-verify_object_signature-clause-exactly
returns-in_err-verify_object_signature-clause-exactly g c =
    let v = verified_by g.P.Provider c.args.self.now.issuer in
    let unsigned = rw (c.provider.ensures, c.issuer.ensures.value) at c.in_err-verify_object_signature.ensures in
    tried-fault _ _ _ _ c.from_residual.ensures
    (not-signed (Some c.args.self.now.list) v c.args.self.now.at c.args.object.now _ unsigned)

pub returns-clause-exactly : goal.returns-clause-exactly
returns-clause-exactly g c =
    let v = verified_by g.P.Provider c.args.self.now.issuer in
    let signed = rw (c.provider.ensures, c.issuer.ensures.value) at c.in_ok-verify_object_signature.ensures in
    let cert = rw c.cert.ensures at c.verify_ee.ensures.exactly in
    cert-decides (Some c.args.self.now.list) v c.args.self.now.at c.args.object.now _ signed cert
