use Rattle.std.proofs.Common.{codes, sym}
use Rattle.std.proofs.lemmas.Result.{IfOk-weaker}
use Rattle.serde_json.specs.View.{view}
use Rattle.rpki_payloads.specs.ExceptionsText.{IsInfoIn}
use Rattle.rpki_payloads.proofs.FindsLaws.{at-member}
use Rattle.rpki_payloads.proofs.exceptions_text.info_in.Goals as goal

pub returns-in-Some : goal.returns-in-Some
returns-in-Some c =
    IfOk-weaker c.info_of.result _ _ (λ o h. at-member (codes "routerPublicKey") IsInfoIn (view c.args.value.now) _
    (sym (rw c.in-Some.is at c.get.ensures)) o h) c.info_of.ensures
