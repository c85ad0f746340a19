use Rattle.std.proofs.Common.{inl, inr}
use Rattle.rpki_x509.proofs.TriedLaws.{tried-fault}
use Rattle.rpki_valid.proofs.RulesLaws.{aspa-rules}
use Rattle.rpki_valid.proofs.aspa.verify_rules.Goals as goal

pub returns-in_err-verify_numbers : goal.returns-in_err-verify_numbers
returns-in_err-verify_numbers c =
    let broken = rw (c.tbs-cert.ensures, c.cert.ensures, c.object.ensures) at c.in_err-verify_numbers.ensures in
    tried-fault _ _ _ _ c.from_residual.ensures
    (inl broken)

pub returns-in_err-verify_own_numbers : goal.returns-in_err-verify_own_numbers
returns-in_err-verify_own_numbers c =
    let numbers = rw (c.tbs-cert.ensures, c.cert.ensures, c.object.ensures) at c.in_ok-verify_numbers.ensures in
    let broken =
    rw (c.tbs-cert.ensures, c.cert.ensures, c.object.ensures) at c.in_err-verify_own_numbers.ensures in
    tried-fault _ _ _ _ c.from_residual-in_err-verify_own_numbers.ensures
    (inr (numbers, inl broken))

pub returns-in_err-verify_no_addresses : goal.returns-in_err-verify_no_addresses
returns-in_err-verify_no_addresses c =
    let numbers = rw (c.tbs-cert.ensures, c.cert.ensures, c.object.ensures) at c.in_ok-verify_numbers.ensures in
    let own = rw (c.tbs-cert.ensures, c.cert.ensures, c.object.ensures) at c.in_ok-verify_own_numbers.ensures in
    let broken =
    rw (c.tbs-cert.ensures, c.cert.ensures, c.object.ensures) at c.in_err-verify_no_addresses.ensures in
    tried-fault _ _ _ _ c.from_residual-in_err-verify_no_addresses.ensures
    (inr (numbers, inr (own, inl broken)))

pub returns : goal.returns
returns c =
    let numbers = rw (c.tbs-cert.ensures, c.cert.ensures, c.object.ensures) at c.in_ok-verify_numbers.ensures in
    let own = rw (c.tbs-cert.ensures, c.cert.ensures, c.object.ensures) at c.in_ok-verify_own_numbers.ensures in
    let addresses =
    rw (c.tbs-cert.ensures, c.cert.ensures, c.object.ensures) at c.in_ok-verify_no_addresses.ensures in
    aspa-rules c.args.aspa.now c.args.held.now numbers own addresses _
    c.verify_within.ensures
