use Rattle.std.proofs.Common.{arith, ◌∙◌}
use Rattle.rpki_der.proofs.IntegerLaws.{octets-fit}
use Rattle.rpki_resources.proofs.AddressLaws.{small-shift, no-bits, bits-found}
use Rattle.rpki_resources.proofs.address.first_bits.Goals as goal

pub returns-then-written-part-ne0-clause-none : goal.returns-then-written-part-ne0-clause-none
returns-then-written-part-ne0-clause-none c = λ x h.
    let few = c.requires.legal.few in
    c.if-written-part-ne0.true (no-bits _ x.number c.args.unused _ (small-shift c.args.unused (omega (arith, few)))
    (c.written_number-written.ensures ∙ h.number))

pub returns-clause-some : goal.returns-clause-some
returns-clause-some c =
    let few = c.requires.legal.few in
    bits-found c.args.octets.now c.args.unused _ _ (octets-fit _ c.type_inv.octets) few c.requires.legal.none
    (small-shift c.args.unused (omega (arith, few))) c.written_number-written.ensures
    (omega (arith, c.if-written-part-ne0.false))
