use Rattle.std.proofs.Common.{codes}
use Rattle.serde_json.specs.View.{view}
use Rattle.rpki_payloads.specs.ExceptionsText.{IsNumberIn, IsPrefixAssertion, IsPrefixIn}
use Rattle.rpki_payloads.proofs.FindsLaws.{finds-as, maybe-one, member-one, number-one, one-vrp, prefix-one}
use Rattle.rpki_payloads.proofs.exceptions_text.prefix_assertion_of.Goals as goal

pub returns-in_default : goal.returns-in_default
returns-in_default c = λ v h. (rw c.in_default.is at c.asn_at.ensures) h.asn h.asn_there

pub returns-in_default-prefix_at : goal.returns-in_default-prefix_at
returns-in_default-prefix_at c = λ v h. (rw c.in_default-prefix_at.is at c.prefix_at.ensures) h.prefix h.prefix_there

pub returns-in_default-longest_in : goal.returns-in_default-longest_in
returns-in_default-longest_in c =
    λ v h. (rw c.in_default-longest_in.is at c.longest_in.ensures) h.longest h.longest_there

pub returns : goal.returns
returns c =
    let d = view c.args.value.now in
    let asn = c.in-Some.ensures in
    let prefix = c.in-Some-prefix_at.ensures in
    let longest = c.in-Some-longest_in.ensures in
    finds-as c.vrp_with.result _ (IsPrefixAssertion d)
    (λ v h. record {
      only = c.has_only_four.ensures.0 c.if-not-has_only_four.false;
      asn = c.in-Some.asn;
      asn_there = asn;
      prefix = c.in-Some-prefix_at.prefix;
      prefix_there = prefix;
      longest = c.in-Some-longest_in.longest;
      longest_there = longest;
      payload = h;
      comment = c.has_comment.ensures.0 c.if-not-has_comment.false;
    })
    (λ v h. one-vrp v h.prefix c.in-Some-prefix_at.prefix h.longest c.in-Some-longest_in.longest h.asn c.in-Some.asn
    (member-one (codes "prefix") IsPrefixIn d _ _ prefix-one h.prefix_there prefix)
    (maybe-one (codes "maxPrefixLength") IsNumberIn d _ _ number-one h.longest_there longest)
    (member-one (codes "asn") IsNumberIn d _ _ number-one h.asn_there asn) h.payload) c.vrp_with.ensures
