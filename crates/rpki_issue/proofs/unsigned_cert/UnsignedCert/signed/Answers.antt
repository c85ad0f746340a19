use Rattle.std.proofs.Common.{subst, IfOk}
use Rattle.rpki.specs.Checkers.{checkers_of}
use Rattle.rpki_cert.proofs.TbsValueLaws.{tbs-value}
use Rattle.rpki_issue.specs.Signing.{ToSign, IsIssuedCert}
use Rattle.rpki_issue.proofs.CertLaws.{issued}
use Rattle.rpki_issue.proofs.unsigned_cert.UnsignedCert.signed.Goals as goal

pub sign-requires : goal.sign-requires
sign-requires g c = tbs-value c.self.inside.tbs c.self.inside.octets c.self.invariant.0

pub returns-clause-ok : goal.returns-clause-ok
returns-clause-ok g c =
    let by = checkers_of g.P.Provider c.args.provider.now in
    let made : ToSign = record { octets = c.self.inside.octets; tbs = c.self.inside.tbs } in
    let key = c.args.key.now in
    let value = c.args.signature in
    subst (λ (m : ToSign). IfOk c.sign.result (λ w. IsIssuedCert by key m value w)) c.self.view_is
    (issued by key made value c.sign.result c.self.invariant c.sign.ensures.ok)
