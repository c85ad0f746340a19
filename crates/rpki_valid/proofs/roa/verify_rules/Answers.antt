use Rattle.std.proofs.Common.{inl, inr}
use Rattle.rpki_x509.proofs.TriedLaws.{tried-fault}
use Rattle.rpki_valid.proofs.RulesLaws.{origin-rules}
use Rattle.rpki_valid.proofs.roa.verify_rules.Goals as goal

pub returns-in_err-verify_addresses : goal.returns-in_err-verify_addresses
returns-in_err-verify_addresses c =
    let broken =
    rw (c.tbs-cert.ensures, c.cert.ensures, c.object.ensures) at c.in_err-verify_addresses.ensures in
    tried-fault _ _ _ _ c.from_residual.ensures
    (inl broken)

pub returns-in_err-verify_own_addresses : goal.returns-in_err-verify_own_addresses
returns-in_err-verify_own_addresses c =
    let addresses =
    rw (c.tbs-cert.ensures, c.cert.ensures, c.object.ensures) at c.in_ok-verify_addresses.ensures in
    let broken =
    rw (c.tbs-cert.ensures, c.cert.ensures, c.object.ensures) at c.in_err-verify_own_addresses.ensures in
    tried-fault _ _ _ _ c.from_residual-in_err-verify_own_addresses.ensures
    (inr (addresses, inl broken))

pub returns-in_err-verify_no_numbers : goal.returns-in_err-verify_no_numbers
returns-in_err-verify_no_numbers c =
    let addresses =
    rw (c.tbs-cert.ensures, c.cert.ensures, c.object.ensures) at c.in_ok-verify_addresses.ensures in
    let own =
    rw (c.tbs-cert.ensures, c.cert.ensures, c.object.ensures) at c.in_ok-verify_own_addresses.ensures in
    let broken =
    rw (c.tbs-cert.ensures, c.cert.ensures, c.object.ensures) at c.in_err-verify_no_numbers.ensures in
    tried-fault _ _ _ _ c.from_residual-in_err-verify_no_numbers.ensures
    (inr (addresses, inr (own, inl broken)))

pub returns : goal.returns
returns c =
    let addresses =
    rw (c.tbs-cert.ensures, c.cert.ensures, c.object.ensures) at c.in_ok-verify_addresses.ensures in
    let own =
    rw (c.tbs-cert.ensures, c.cert.ensures, c.object.ensures) at c.in_ok-verify_own_addresses.ensures in
    let numbers =
    rw (c.tbs-cert.ensures, c.cert.ensures, c.object.ensures) at c.in_ok-verify_no_numbers.ensures in
    origin-rules c.args.roa.now c.args.held.now addresses own numbers _
    c.verify_within.ensures
