use Rattle.std.proofs.Common.{◌-◌, ◌*◌, ◌<◌, ◌≤◌, ◌≡◌, length, inl, inr, None, ap, arith, rules}
use Rattle.std.proofs.lemmas.Bool.{cases_lt}
use Rattle.rpki_der.specs.Prelude.{number_of}
use Rattle.rpki_der.proofs.IntegerLaws.{nine-octets}
use Rattle.rpki_rsa.specs.Key.{key_fault}
use Rattle.rpki_rsa.specs.Limbs.{limb_weight, value_below}
use Rattle.rpki_rsa.proofs.KeyLemmas.{accepted}
use Rattle.rpki_rsa.proofs.LimbsLemmas.{lowest_odd, highest_pos}
use Rattle.rpki_rsa.proofs.NumberLemmas.{number_of_weight}
use Rattle.rpki_rsa.proofs.key.Key.from_public_key.Goals as goal

pub new-modulus-requires-clause-shortest : goal.new-modulus-requires-clause-shortest
new-modulus-requires-clause-shortest c =
    let none : key_fault c.args.key.now ≡ None = search rules in
    let rules_met = accepted c.args.key.now c.modulus-modulus.ensures.magnitude none in
    let len = c.div_ceil-len.result in
    let limbs = c.limbs_of.ensures in
    let modulus = c.args.key.now.modulus in
    let same = c.modulus-modulus.ensures.octets in
    let value : value_below c.limbs_of.result len ≡ number_of modulus = rw same at limbs.value in
    let size : length c.modulus-modulus.result.now ≡ length modulus = ap length same in
    let octets : 8 * (len - 1) < length modulus = omega arith in
    let weight : limb_weight (len - 1) ≤ value_below c.limbs_of.result len =
    omega (arith, number_of_weight modulus (len - 1) octets rules_met.shortest) in
    highest_pos c.limbs_of.result (len - 1) len (omega arith) limbs.limbs weight

pub new-modulus-requires-clause-odd : goal.new-modulus-requires-clause-odd
new-modulus-requires-clause-odd c =
    let none : key_fault c.args.key.now ≡ None = search rules in
    let rules_met = accepted c.args.key.now c.modulus-modulus.ensures.magnitude none in
    let value = rw c.modulus-modulus.ensures.octets at c.limbs_of.ensures.value in
    let size : length c.modulus-modulus.result.now ≡ length c.args.key.now.modulus =
    ap length c.modulus-modulus.ensures.octets in
    lowest_odd c.limbs_of.result c.div_ceil-len.result _ (omega arith) value rules_met.odd

pub word_of-requires : goal.word_of-requires
word_of-requires c =
    let none : key_fault c.args.key.now ≡ None = search rules in
    let rules_met = accepted c.args.key.now c.modulus-modulus.ensures.magnitude none in
    let exponent = c.args.key.now.exponent in
    let few : length exponent ≤ 8 = elim (cases_lt 8 (length exponent)) [
      | inl many ↦ let large = nine-octets exponent c.exponent.ensures.magnitude many in absurd (omega arith)
      | inr few ↦ omega arith
    ] in
    rw c.exponent.ensures.octets few
