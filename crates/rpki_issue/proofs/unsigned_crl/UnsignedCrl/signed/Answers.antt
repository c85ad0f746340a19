use Rattle.std.proofs.Common.{ℕ, List, sym, subst, IfOk}
use Rattle.rpki_der.specs.Prelude.{IsValue}
use Rattle.rpki.specs.Checkers.{checkers_of}
use Rattle.rpki_crl.specs.Crl.{list_of}
use Rattle.rpki_crl.specs.EncodedCrl.{list_octets, normal_list}
use Rattle.rpki_crl.proofs.ListValueLaws.{list-value}
use Rattle.rpki_issue.specs.SignedList.{ListToSign, IsIssuedList}
use Rattle.rpki_issue.proofs.ListLaws.{issued-list}
use Rattle.rpki_issue.proofs.unsigned_crl.UnsignedCrl.signed.Goals as goal

pub sign-requires : goal.sign-requires
sign-requires g c =
    let x = list_of c.self.inside.list in
    subst (λ (o : List ℕ). IsValue o) (sym c.self.invariant.0)
    (list-value (normal_list x) (list_octets x) c.self.invariant.1)

pub returns-clause-ok : goal.returns-clause-ok
returns-clause-ok g c =
    let by = checkers_of g.P.Provider c.args.provider.now in
    let made : ListToSign = record { octets = c.self.inside.octets; list = list_of c.self.inside.list } in
    let key = c.args.key.now in
    let value = c.args.signature in
    subst (λ (m : ListToSign). IfOk c.sign.result (λ w. IsIssuedList by key m value w)) c.self.view_is
    (issued-list by key made value c.sign.result c.self.invariant c.sign.ensures.ok)
