use Rattle.std.proofs.Common.{Some, ap, codes}
use Rattle.serde_json.specs.View.{view}
use Rattle.rpki_payloads.specs.ExceptionsText.{IsNumberIn, IsPrefixIn}
use Rattle.rpki_payloads.specs.Listed.{IsAsIn, IsElement}
use Rattle.rpki_payloads.proofs.FindsLaws.{as-one, finds-as, member-one, number-one, one-vrp, prefix-one}
use Rattle.rpki_payloads.proofs.payload_list.element_of.Goals as goal

pub returns-in_default : goal.returns-in_default
returns-in_default c = λ v h. (rw c.in_default.is at c.as_in.ensures) h.asn h.asn_there

pub returns-in_default-prefix_at : goal.returns-in_default-prefix_at
returns-in_default-prefix_at c = λ v h. (rw c.in_default-prefix_at.is at c.prefix_at.ensures) h.prefix h.prefix_there

pub returns-in_default-length_in : goal.returns-in_default-length_in
returns-in_default-length_in c = λ v h. (rw c.in_default-length_in.is at c.length_in.ensures) h.longest h.longest_there

pub returns : goal.returns
returns c =
    let d = view c.args.value.now in
    let asn = c.in-Some.ensures in
    let prefix = c.in-Some-prefix_at.ensures in
    let longest = c.in-Some-length_in.ensures in
    finds-as c.vrp_with.result _ (IsElement d)
    (λ v h. record {
      asn = c.in-Some.asn;
      asn_there = asn;
      prefix = c.in-Some-prefix_at.prefix;
      prefix_there = prefix;
      longest = c.in-Some-length_in.longest;
      longest_there = longest;
      payload = h;
    })
    (λ v h. one-vrp v h.prefix c.in-Some-prefix_at.prefix (Some h.longest) (Some c.in-Some-length_in.longest) h.asn
    c.in-Some.asn
    (member-one (codes "prefix") IsPrefixIn d _ _ prefix-one h.prefix_there prefix)
    (ap Some (member-one (codes "maxLength") IsNumberIn d _ _ number-one h.longest_there longest))
    (member-one (codes "asn") IsAsIn d _ _ as-one h.asn_there asn) h.payload) c.vrp_with.ensures
