use Rattle.std.proofs.lemmas.Result.{err_from_is_err_and}
use Rattle.rpki_examples.proofs.verification.verified.Goals as goal

pub returns-in_err-verify_signature : goal.returns-in_err-verify_signature
returns-in_err-verify_signature g c =
    let p = err_from_is_err_and c.from_residual-in_err-verify_signature.result
    c.from_residual-in_err-verify_signature.ensures.1 in
    rw (p.1, p.2)
    (record {
      signed = tt;
      refused = (
        c.in_ok-signed.signed,
        c.in_ok-signed.ensures.decodes.0,
        λ h. let no = c.in_err-verify_signature.ensures.1 h in
            cc,
      );
    })
