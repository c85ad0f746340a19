use Rattle.std.proofs.Common.{refl}
use Rattle.rpki_issue.specs.Extensions.{extensions_of}
use Rattle.rpki_issue.specs.Tbs.{issued_of, normal_tbs}
use Rattle.rpki_issue.proofs.PlanLaws.{plan-read, plan-made, profile-refused}
use Rattle.rpki_issue.proofs.tbs.TbsCertBuilder.to_sign.Goals as goal

pub read_again-requires : goal.read_again-requires
read_again-requires c =
    let x = issued_of c.args.self.now in
    let e = c.args.said.now in
    let octets = c.in-Ok-write_tbs in (
      normal_tbs x (extensions_of e),
      plan-read x e c.in-Ok.listed octets.octets (c.are_uris.ensures.0 c.if-not-are_uris.false) c.in-Ok.ensures.ok
          octets.ensures.ok octets.ensures.read,
      refl,
    )

pub returns-in-Ok-read_again-clause-ok : goal.returns-in-Ok-read_again-clause-ok
returns-in-Ok-read_again-clause-ok c =
    let x = issued_of c.args.self.now in
    let e = c.args.said.now in
    let octets = c.in-Ok-write_tbs in
    plan-made x e c.in-Ok.listed octets.octets c.profile.result c.in-Ok-read_again.made c.in-Ok.ensures.ok
    octets.ensures.ok c.profile.ensures
    (c.in-Ok-read_again.ensures.ok (normal_tbs x (extensions_of e))
    (plan-read x e c.in-Ok.listed octets.octets (c.are_uris.ensures.0 c.if-not-are_uris.false) c.in-Ok.ensures.ok
    octets.ensures.ok octets.ensures.read))

pub returns-clause-err : goal.returns-clause-err
returns-clause-err c =
    let x = issued_of c.args.self.now in
    let e = c.args.said.now in
    let octets = c.in-Ok-write_tbs in
    profile-refused x e c.profile.result c.in-Err-read_again.e c.profile.ensures
    (c.in-Err-read_again.ensures.err (normal_tbs x (extensions_of e))
    (plan-read x e c.in-Ok.listed octets.octets (c.are_uris.ensures.0 c.if-not-are_uris.false) c.in-Ok.ensures.ok
    octets.ensures.ok octets.ensures.read))
