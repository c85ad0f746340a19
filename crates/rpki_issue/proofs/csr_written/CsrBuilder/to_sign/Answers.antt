use Rattle.std.proofs.Common.{ℕ, List, refl, sym, subst}
use Rattle.rpki_request.specs.Request.{request_info, fields_of}
use Rattle.rpki_issue.specs.Requests.{info_planned}
use Rattle.rpki_issue.proofs.RequestLaws.{info-read}
use Rattle.rpki_issue.proofs.csr_written.CsrBuilder.to_sign.Goals as goal

pub invariant_of-result : goal.invariant_of-result
invariant_of-result c =
    let x = c.args.self.now in
    let made = c.in-Ok.ensures in (
      made.one,
      subst (λ (o : List ℕ). request_info.spells (fields_of (info_planned x)) o) (sym made.ok)
          (info-read x (c.can_publish.ensures.0 c.if-not-can_publish.false) made.known made.few),
    )

pub returns-in-Ok-clause-ok : goal.returns-in-Ok-clause-ok
returns-in-Ok-clause-ok c =
    let x = c.args.self.now in
    let made = c.in-Ok.ensures in
    record {
      octets = made.ok;
      info = refl;
      read_back = subst (λ (o : List ℕ). request_info.spells (fields_of (info_planned x)) o) (sym made.ok)
          (info-read x (c.can_publish.ensures.0 c.if-not-can_publish.false) made.known made.few);
    }
