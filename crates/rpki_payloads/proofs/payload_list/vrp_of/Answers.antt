use Rattle.std.proofs.Common.{Some, ap}
use Rattle.rpki_payloads.specs.Listed.{AreFields}
use Rattle.rpki_payloads.proofs.FindsLaws.{finds-as, one-vrp, as-text-one, length-text-one, prefix-text-one}
use Rattle.rpki_payloads.proofs.payload_list.vrp_of.Goals as goal

pub returns-in_default : goal.returns-in_default
returns-in_default c = λ v h. (rw c.in_default.is at c.asn_of.ensures) h.0 h.3

pub returns-in_default-prefix_of : goal.returns-in_default-prefix_of
returns-in_default-prefix_of c = λ v h. (rw c.in_default-prefix_of.is at c.prefix_of.ensures) h.1 h.4

pub returns-in_default-length_of : goal.returns-in_default-length_of
returns-in_default-length_of c = λ v h. (rw c.in_default-length_of.is at c.length_of.ensures) h.2 h.5

pub returns : goal.returns
returns c =
    let asn = c.in-Some.ensures in
    let prefix = c.in-Some-prefix_of.ensures in
    let longest = c.in-Some-length_of.ensures in
    finds-as c.vrp_with.result _ (AreFields c.args.number.now c.args.text.now c.args.digits.now)
    (λ v h. (c.in-Some.asn, c.in-Some-prefix_of.prefix, c.in-Some-length_of.longest, asn, prefix, longest, h))
    (λ v h. one-vrp v h.1 c.in-Some-prefix_of.prefix (Some h.2) (Some c.in-Some-length_of.longest) h.0 c.in-Some.asn
    (prefix-text-one c.args.text.now _ _ h.4 prefix) (ap Some (length-text-one c.args.digits.now _ _ h.5 longest))
    (as-text-one c.args.number.now _ _ h.3 asn) h.6) c.vrp_with.ensures
