use Rattle.std.proofs.Common.{codes, sym}
use Rattle.serde_json.specs.View.{view}
use Rattle.rpki_payloads.specs.ExceptionsText.{IsPrefixIn}
use Rattle.rpki_payloads.proofs.FindsLaws.{other-member}
use Rattle.rpki_payloads.proofs.members.prefix_in.Goals as goal

pub returns-in-None-prefix_of : goal.returns-in-None-prefix_of
returns-in-None-prefix_of c =
    other-member (codes "prefix") IsPrefixIn (view c.args.value.now) _ (sym (rw c.in-Some.is at c.get.ensures))
    (rw c.in-None-prefix_of.is at c.prefix_of.ensures)
