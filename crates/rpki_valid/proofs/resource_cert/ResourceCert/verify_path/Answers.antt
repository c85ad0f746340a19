use Rattle.std.specs.Option.{option_copied}
use Rattle.rpki_valid.specs.Verified.{verified_by}
use Rattle.rpki_x509.proofs.TriedLaws.{tried-fault}
use Rattle.rpki_valid.proofs.VerifiedLaws.{off-period, off-issued, off-revoked, path-settles}
use Rattle.rpki_valid.proofs.resource_cert.ResourceCert.verify_path.Goals as goal

pub returns-in_err-verify_period-clause-exactly : goal.returns-in_err-verify_period-clause-exactly
returns-in_err-verify_period-clause-exactly g c =
    let v = verified_by g.P.Provider c.args.self.now in
    tried-fault _ _ _ _ c.from_residual.ensures
    (off-period (option_copied c.args.list) v c.args.at c.args.cert.now _ (rw c.period.ensures at
    c.in_err-verify_period.ensures))

pub returns-in_err-verify_issued_by-clause-exactly : goal.returns-in_err-verify_issued_by-clause-exactly
returns-in_err-verify_issued_by-clause-exactly g c =
    let v = verified_by g.P.Provider c.args.self.now in
    let holds = rw c.period.ensures at c.in_ok-verify_period.ensures in
    let issued = rw (c.with_key-provider.ensures, c.tbs-issuer.ensures, c.cert-authority.ensures.value)
    at c.in_err-verify_issued_by.ensures in
    tried-fault _ _ _ _ c.from_residual-in_err-verify_issued_by.ensures
    (off-issued (option_copied c.args.list) v c.args.at c.args.cert.now _ holds issued)

pub returns-in_err-verify_unrevoked-clause-exactly : goal.returns-in_err-verify_unrevoked-clause-exactly
returns-in_err-verify_unrevoked-clause-exactly g c =
    let v = verified_by g.P.Provider c.args.self.now in
    let holds = rw c.period.ensures at c.in_ok-verify_period.ensures in
    let issued = rw (c.with_key-provider.ensures, c.tbs-issuer.ensures, c.cert-authority.ensures.value)
    at c.in_ok-verify_issued_by.ensures in
    tried-fault _ _ _ _ c.from_residual-in_err-verify_unrevoked.ensures
    (off-revoked (option_copied c.args.list) v c.args.at c.args.cert.now _ holds issued
    c.in_err-verify_unrevoked.ensures)

pub returns-clause-exactly : goal.returns-clause-exactly
returns-clause-exactly g c =
    let v = verified_by g.P.Provider c.args.self.now in
    let holds = rw c.period.ensures at c.in_ok-verify_period.ensures in
    let issued = rw (c.with_key-provider.ensures, c.tbs-issuer.ensures, c.cert-authority.ensures.value)
    at c.in_ok-verify_issued_by.ensures in
    path-settles (option_copied c.args.list) v c.args.at c.args.cert.now c.settle.result holds issued
    c.in_ok-verify_unrevoked.ensures (rw (c.tbs.ensures, c.resources.ensures) at c.settle.ensures)
