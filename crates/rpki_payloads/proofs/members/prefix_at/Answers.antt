use Rattle.std.proofs.Common.{codes, sym}
use Rattle.serde_json.specs.View.{view}
use Rattle.rpki_payloads.specs.ExceptionsText.{IsPrefixIn}
use Rattle.rpki_payloads.proofs.FindsLaws.{at-member}
use Rattle.rpki_payloads.proofs.members.prefix_at.Goals as goal

pub returns-in-Some : goal.returns-in-Some
returns-in-Some c =
    at-member (codes "prefix") IsPrefixIn (view c.args.value.now) _ (sym (rw c.in-Some.is at c.get.ensures))
    c.prefix_of.result c.prefix_of.ensures
