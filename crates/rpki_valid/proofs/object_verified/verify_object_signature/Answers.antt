use Rattle.rpki.specs.Checkers.{checkers_of}
use Rattle.rpki_x509.proofs.TriedLaws.{tried-fault}
use Rattle.rpki_valid.proofs.ObjectVerifiedLaws.{other-type, other-digest, other-key, asked-last}
use Rattle.rpki_valid.proofs.object_verified.verify_object_signature.Goals as goal

pub returns-in_err-verify_content_type : goal.returns-in_err-verify_content_type
returns-in_err-verify_content_type g c =
    let by = checkers_of g.P.Provider c.args.provider.now in
    tried-fault _ _ _ _ c.from_residual.ensures
    (other-type by c.args.object.now _ c.in_err-verify_content_type.ensures)

pub returns-in_err-verify_digest : goal.returns-in_err-verify_digest
returns-in_err-verify_digest g c =
    let by = checkers_of g.P.Provider c.args.provider.now in
    tried-fault _ _ _ _ c.from_residual-in_err-verify_digest.ensures
    (other-digest by c.args.object.now c.in_ok-verify_content_type.ensures _
    c.in_err-verify_digest.ensures)

pub returns-in_err-verify_signer : goal.returns-in_err-verify_signer
returns-in_err-verify_signer g c =
    let by = checkers_of g.P.Provider c.args.provider.now in
    tried-fault _ _ _ _ c.from_residual-in_err-verify_signer.ensures
    (other-key by c.args.object.now c.in_ok-verify_content_type.ensures c.in_ok-verify_digest.ensures _
    c.in_err-verify_signer.ensures)

pub returns : goal.returns
returns g c =
    let by = checkers_of g.P.Provider c.args.provider.now in
    asked-last by c.args.object.now c.in_ok-verify_content_type.ensures c.in_ok-verify_digest.ensures _
    c.in_ok-verify_signer.ensures c.verify_attributes.ensures
