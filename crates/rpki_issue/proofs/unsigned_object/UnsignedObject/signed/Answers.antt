use Rattle.std.proofs.Common.{sym, subst, ap, ◌∙◌, refl}
use Rattle.rpki.specs.Checkers.{checkers_of}
use Rattle.rpki.specs.PublicKey.{KeyParts}
use Rattle.rpki_attributes.specs.SignedAttributes.{AttributeValues, values_known}
use Rattle.rpki_cert.specs.Cert.{TbsParts}
use Rattle.rpki_issue.specs.SignedObjects.{ObjectToSign, AreTimed}
use Rattle.rpki_issue.proofs.ObjectLaws.{moved, built-same, signature-refused, object-issued, build-refused}
use Rattle.rpki_issue.proofs.unsigned_object.UnsignedObject.signed.Goals as goal

pub returns-in-Err-verify-clause-err : goal.returns-in-Err-verify-clause-err
returns-in-Err-verify-clause-err g c =
    let p = g.P.Provider in
    let provider = c.args.provider.now in
    let cert = c.in-Ok.cert in
    let key = c.subject_public_key_info-key.ensures ∙ ap (λ (t : TbsParts). t.key) c.tbs.ensures in
    let message = c.as_slice.ensures ∙ ap (λ (m : ObjectToSign). m.message) c.self.view_is in
    let value = ap (λ s. s.value) c.new-signature.ensures in
    signature-refused (checkers_of p provider) c.args.self c.args.certificate.now
    c.args.signature cert c.in-Ok.ensures.ok (λ h.
    let verified = c.in-Err-verify.ensures.1
    (moved (checkers_of p provider) cert.tbs.key c.subject_public_key_info-key.result.now
    c.args.self.message c.as_slice.result.now c.args.signature c.new-signature.result.value (sym key) (sym message)
    (sym value) h) in
    let none : ⊥ = cc in
    none)

pub returns-in-Ok-write_object-clause-ok : goal.returns-in-Ok-write_object-clause-ok
returns-in-Ok-write_object-clause-ok g c =
    let p = g.P.Provider in
    let provider = c.args.provider.now in
    let cert = c.in-Ok.cert in
    let one = c.in-Ok.ensures.ok in
    let key = c.subject_public_key_info-key.ensures ∙ ap (λ (t : TbsParts). t.key) c.tbs.ensures in
    let message = c.as_slice.ensures ∙ ap (λ (m : ObjectToSign). m.message) c.self.view_is in
    let value = ap (λ s. s.value) c.new-signature.ensures in
    let said = ap (λ (m : ObjectToSign). m.attributes) c.self.view_is in
    let same = built-same (checkers_of p provider) c.args.self
    c.args.certificate.now c.args.signature cert one (values_known c.self.inside.attributes) c.self.inside.content.now
    c.key_identifier.result c.as_slice-2.result.now said (ap (λ (m : ObjectToSign). m.content) c.self.view_is)
    (c.key_identifier.ensures.value ∙ ap (λ (k : KeyParts). p.sha1_of provider k.bits.octets) key)
    (c.as_slice-2.ensures ∙ c.value.ensures ∙ value) in
    object-issued (checkers_of p provider) c.args.self c.args.certificate.now
    c.args.signature cert one _ same c.in-Ok-write_object.made
    (moved (checkers_of p provider) c.subject_public_key_info-key.result.now cert.tbs.key
    c.as_slice.result.now c.args.self.message c.new-signature.result.value c.args.signature key message value
    (c.in-Ok-verify.ensures.0 refl))
    c.in-Ok-write_object.ensures.ok c.in-Ok-write_object.ensures.read
    (subst (λ (v : AttributeValues). AreTimed v) said c.self.invariant.1)

pub returns-clause-err : goal.returns-clause-err
returns-clause-err g c =
    let p = g.P.Provider in
    let provider = c.args.provider.now in
    let cert = c.in-Ok.cert in
    let one = c.in-Ok.ensures.ok in
    let key = c.subject_public_key_info-key.ensures ∙ ap (λ (t : TbsParts). t.key) c.tbs.ensures in
    let value = ap (λ s. s.value) c.new-signature.ensures in
    let said = ap (λ (m : ObjectToSign). m.attributes) c.self.view_is in
    let same = built-same (checkers_of p provider) c.args.self
    c.args.certificate.now c.args.signature cert one (values_known c.self.inside.attributes) c.self.inside.content.now
    c.key_identifier.result c.as_slice-2.result.now said (ap (λ (m : ObjectToSign). m.content) c.self.view_is)
    (c.key_identifier.ensures.value ∙ ap (λ (k : KeyParts). p.sha1_of provider k.bits.octets) key)
    (c.as_slice-2.ensures ∙ c.value.ensures ∙ value) in
    build-refused (checkers_of p provider) c.args.self c.args.certificate.now
    c.args.signature cert one _ same c.in-Err-write_object.e c.in-Err-write_object.ensures.err
