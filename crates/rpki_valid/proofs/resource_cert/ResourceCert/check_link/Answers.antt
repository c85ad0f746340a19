use Rattle.std.specs.Option.{option_copied}
use Rattle.rpki_valid.specs.Verified.{verified_by}
use Rattle.rpki_cert.proofs.RuleLaws.{has-policy}
use Rattle.rpki_x509.proofs.TriedLaws.{tried-fault}
use Rattle.rpki_valid.proofs.VerifiedLaws.{profile-then, profile-else, within-then}
use Rattle.rpki_valid.proofs.resource_cert.ResourceCert.check_link.Goals as goal

pub verify_path-requires : goal.verify_path-requires
verify_path-requires g c =
    let has = has-policy c.args.self.now.terms.strictness.names c.args.cert.now.tbs c.args.profile (rw (
      c.tbs.ensures,
      c.strictness.ensures,
    )
    at c.in_ok-inspect.ensures) in
    record { policy = has.0; form = has.1 }

pub returns-clause-exactly : goal.returns-clause-exactly
returns-clause-exactly g c =
    let v = verified_by g.P.Provider c.args.self.now in
    profile-then c.args.profile (option_copied c.args.list) v c.args.at c.args.cert.now c.verify_path.result
    (rw (c.tbs.ensures, c.strictness.ensures) at c.in_ok-inspect.ensures) c.verify_path.ensures.exactly

pub returns-clause-within : goal.returns-clause-within
returns-clause-within g c =
    let v = verified_by g.P.Provider c.args.self.now in
    within-then c.args.profile (option_copied c.args.list) v c.args.at c.args.cert.now c.verify_path.result
    c.verify_path.ensures.exactly

pub returns-in_err-inspect-clause-exactly : goal.returns-in_err-inspect-clause-exactly
returns-in_err-inspect-clause-exactly g c =
    let v = verified_by g.P.Provider c.args.self.now in
    tried-fault _ _ _ _ c.from_residual.ensures
    (profile-else c.args.profile (option_copied c.args.list) v c.args.at c.args.cert.now _
    (rw (c.tbs.ensures, c.strictness.ensures) at c.in_err-inspect.ensures))
