use Rattle.rpki_valid.specs.Verified.{verified_by}
use Rattle.rpki_valid.proofs.VerifiedLaws.{listed-of}
use Rattle.rpki_valid.proofs.current_crl.CurrentCrl.verify_link.Goals as goal

pub returns-clause-exactly : goal.returns-clause-exactly
returns-clause-exactly g c = rw (c.issuer.ensures.value, c.list-list.ensures.value, c.at.ensures) at
    c.check_link.ensures.exactly

pub returns-clause-path : goal.returns-clause-path
returns-clause-path g c =
    let v = verified_by g.P.Provider c.args.self.now.issuer in
    listed-of c.args.profile v c.args.self.now.at c.args.cert.now c.args.self.now.staleness c.args.self.now.list
    c.list-list.ensures.issued c.check_link.result (rw c.issuer.ensures.value at c.check_link.ensures.verified)
    (rw (c.issuer.ensures.value, c.list-list.ensures.value, c.at.ensures) at c.check_link.ensures.exactly)
