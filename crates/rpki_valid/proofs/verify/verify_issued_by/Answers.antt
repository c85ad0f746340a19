use Rattle.std.proofs.Common.{inl}
use Rattle.rpki_x509.proofs.TriedLaws.{tried-fault}
use Rattle.rpki_valid.proofs.verify.verify_issued_by.Goals as goal

pub returns-in_err-verify_signed : goal.returns-in_err-verify_signed
returns-in_err-verify_signed g c =
    let h = rw (c.subject.ensures, c.subject_public_key_info.ensures) at c.in_err-verify_signed.ensures in
    tried-fault _ _ _ _ c.from_residual.ensures (λ k. h.0 k.signed, inl h)
