use Rattle.std.proofs.Common.{refl}
use Rattle.rpki_der.proofs.MembersLaws.{value-accepted}
use Rattle.rpki_x509.specs.SignedParts.AreMalformed.{AtAlgorithm, AtSignature}
use Rattle.rpki_x509.proofs.FrameLaws.{algorithm-refused}
use Rattle.rpki_x509.proofs.SignedPartsLaws.{parts-read}
use Rattle.rpki_x509.proofs.signed_parts.read_parts.Goals as goal

pub returns-in-Err-clause-err : goal.returns-in-Err-clause-err
returns-in-Err-clause-err c =
    AtAlgorithm (algorithm-refused _ _ c.in-Err.e c.in-Err.ensures) c.in-Err.ensures.kind refl

pub returns-in-Err-read_signature-clause-err : goal.returns-in-Err-read_signature-clause-err
returns-in-Err-read_signature-clause-err c =
    let h = c.in-Err-read_signature.ensures in
    AtSignature _ _ c.in-Ok.ensures h.gives h.fault refl

pub returns-in-Ok-read_signature-clause-ok : goal.returns-in-Ok-read_signature-clause-ok
returns-in-Ok-read_signature-clause-ok c = λ one.
    parts-read _ _ _ _ _ _ _ _ _ (value-accepted c.args.signed.now _ one) refl c.rest-octets.ensures refl
    c.in-Ok.ensures refl c.rest-last.ensures c.before-in-Ok-read_signature.ensures
    c.in-Ok-read_signature.ensures.gives.0 refl refl
