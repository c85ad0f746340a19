use Rattle.std.proofs.Common.{inl, inr}
use Rattle.rpki_x509.proofs.TriedLaws.{tried-fault}
use Rattle.rpki_valid.proofs.current_crl.CurrentCrl.process_aspa.Goals as goal

pub returns-in_err-held-clause-exactly : goal.returns-in_err-held-clause-exactly
returns-in_err-held-clause-exactly g c =
    let invalid = rw c.object.ensures at c.in_err-held.ensures.exactly in
    tried-fault _ _ _ _ c.from_residual.ensures (inl invalid)

pub returns-in_err-verify_rules-clause-exactly : goal.returns-in_err-verify_rules-clause-exactly
returns-in_err-verify_rules-clause-exactly g c =
    let valid = rw c.object.ensures at c.in_ok-held.ensures.exactly in
    tried-fault _ _ _ _ c.from_residual-in_err-verify_rules.ensures
    (inr (c.in_ok-held.held, valid, c.in_err-verify_rules.ensures))

pub returns-clause-exactly : goal.returns-clause-exactly
returns-clause-exactly g c =
    let valid = rw c.object.ensures at c.in_ok-held.ensures.exactly in
    record { object = valid; rules = c.in_ok-verify_rules.ensures }
