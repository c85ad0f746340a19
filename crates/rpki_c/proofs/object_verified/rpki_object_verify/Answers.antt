use Rattle.std.proofs.Common.{inl, inr, sym}
use Rattle.rpki_c.proofs.object_verified.rpki_object_verify.Goals as goal

pub returns-in-Err-test_content : goal.returns-in-Err-test_content
returns-in-Err-test_content c =
    let (x, at) = c.in-Ok.ensures.ok in
    inr (x, at.spelled, inl (c.in-Err-test_content.ensures c.args.strict c.args.octets.now x at))

pub returns-in-Ok-test_content : goal.returns-in-Ok-test_content
returns-in-Ok-test_content c =
    let (x, at) = c.in-Ok.ensures.ok in
    let told = rw (
      at.parts.signer.identifier,
      sym at.parts.signer.attributes.message,
      at.parts.signer.signature.octets,
    ) at c.signer_told.ensures _ x.cert at.parts.cert_parts in
    inr (x, at.spelled, inr (c.in-Ok-test_content.ensures c.args.strict c.args.octets.now x at, told))
