use Rattle.std.proofs.Common.{true, refl, sym, subst}
use Rattle.rpki_cert.specs.Cert.{TbsParts}
use Rattle.rpki_cert.specs.Profile.{HasProfile}
use Rattle.rpki_issue.specs.declared.error.IssueError.TheVariants.{Rule}
use Rattle.rpki_issue.specs.Signing.{IsProfileRefusal}
use Rattle.rpki_issue.proofs.CertLaws.{one-tbs, kept-tbs}
use Rattle.rpki_issue.proofs.unsigned_cert.read_again.Goals as goal

pub invariant_of-result : goal.invariant_of-result
invariant_of-result c = kept-tbs _ c.args.octets c.in-Ok.tbs _ c.cursor-cons.ensures c.in-Ok.ensures.reads c.requires

pub returns-in-Ok-test-clause-ok : goal.returns-in-Ok-test-clause-ok
returns-in-Ok-test-clause-ok c = λ t spelled.
    let e = one-tbs _ c.args.octets c.in-Ok.tbs t _ c.cursor-cons.ensures c.in-Ok.ensures.reads spelled in
    record {
      same = refl;
      tbs = sym e;
      has = subst (λ (w : TbsParts). HasProfile c.args.profile true w) (sym e) c.in-Ok-test.ensures;
    }

pub returns-in-Err-test-clause-err : goal.returns-in-Err-test-clause-err
returns-in-Err-test-clause-err c = λ t spelled.
    let e = one-tbs _ c.args.octets c.in-Ok.tbs t _ c.cursor-cons.ensures c.in-Ok.ensures.reads spelled in
    subst (λ (w : TbsParts). IsProfileRefusal c.args.profile w (Rule c.in-Err-test.rule)) (sym e) c.in-Err-test.ensures
