use Rattle.std.proofs.Common.{inr}
use Rattle.rpki_c.proofs.CertificateLaws.{listed}
use Rattle.rpki_c.proofs.object_verified.signer_told.Goals as goal

pub returns : goal.returns
returns c = λ s x h.
    inr (
      c.in-Ok.known,
      c.in-Ok.ensures.ok x.tbs.extensions (listed h),
      inr (
        c.is_identifier.ensures.0 c.if-not-is_identifier.false,
        rw h.tbs.named.keyed.same at c.attributes_verified.ensures,
      ),
    )
