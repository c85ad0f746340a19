use Rattle.rpki_valid.specs.Verified.{verified_by}
use Rattle.rpki_x509.proofs.TriedLaws.{tried-fault}
use Rattle.rpki_valid.proofs.IssuedLaws.{unsigned, not-out}
use Rattle.rpki_valid.proofs.resource_cert.ResourceCert.verify_list.Goals as goal

pub returns-in_err-verify_signature : goal.returns-in_err-verify_signature
returns-in_err-verify_signature g c =
    let v = verified_by g.P.Provider c.args.self.now in
    let holds = rw c.period.ensures at c.in_ok-verify_period.ensures in
    let signed = rw (
      c.with_key-provider.ensures,
      c.as_slice.ensures,
      c.data.ensures.slice,
      c.signature.ensures,
      c.signed_data-signed.ensures,
      c.subject_public_key_info-key.ensures,
      c.tbs-authority.ensures,
      c.cert.ensures.value,
    ) at c.in_err-verify_signature.ensures in
    tried-fault _ _ _ _ c.from_residual-in_err-verify_signature.ensures
    (unsigned c.args.staleness v c.args.at c.args.list.now holds _ signed)

pub returns-in_err-verify_out : goal.returns-in_err-verify_out
returns-in_err-verify_out g c =
    let v = verified_by g.P.Provider c.args.self.now in
    let holds = rw c.period.ensures at c.in_ok-verify_period.ensures in
    let signed = rw (
      c.with_key-provider.ensures,
      c.as_slice.ensures,
      c.data.ensures.slice,
      c.signature.ensures,
      c.signed_data-signed.ensures,
      c.subject_public_key_info-key.ensures,
      c.tbs-authority.ensures,
      c.cert.ensures.value,
    ) at c.in_ok-verify_signature.ensures in
    let name = rw (c.subject.ensures, c.tbs-authority.ensures, c.cert.ensures.value) at c.in_ok-verify_issuer.ensures in
    let key = rw c.key_identifier.ensures at c.in_ok-verify_authority.ensures in
    tried-fault _ _ _ _ c.from_residual-in_err-verify_out.ensures
    (not-out c.args.staleness v c.args.at c.args.list.now holds signed name key _ c.in_err-verify_out.ensures)
