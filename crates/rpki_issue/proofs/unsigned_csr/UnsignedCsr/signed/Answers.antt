use Rattle.std.proofs.Common.{subst, IfOk}
use Rattle.rpki.specs.Checkers.{checkers_of}
use Rattle.rpki_issue.specs.Requests.{RequestToSign, info_planned, IsMadeRequest}
use Rattle.rpki_issue.proofs.RequestLaws.{made-request}
use Rattle.rpki_issue.proofs.unsigned_csr.UnsignedCsr.signed.Goals as goal

pub returns-clause-ok : goal.returns-clause-ok
returns-clause-ok g c =
    let by = checkers_of g.P.Provider c.args.provider.now in
    let made : RequestToSign = record {
      octets = c.self.inside.octets;
      info = info_planned c.self.inside.builder;
    } in
    let value = c.args.signature in
    subst (λ (m : RequestToSign). IfOk c.sign.result (λ w. IsMadeRequest by m value w)) c.self.view_is
    (made-request by made value c.sign.result c.self.invariant c.sign.ensures.ok)
