use Rattle.rpki_valid.specs.Verified.{verified_by}
use Rattle.rpki_valid.proofs.VerifiedLaws.{unlisted-of}
use Rattle.rpki_valid.proofs.resource_cert.ResourceCert.verify_unlisted.Goals as goal

pub returns-clause-path : goal.returns-clause-path
returns-clause-path g c =
    let v = verified_by g.P.Provider c.args.self.now in
    unlisted-of c.args.profile v c.args.at c.args.cert.now c.check_link.result c.check_link.ensures.verified
    c.check_link.ensures.exactly
