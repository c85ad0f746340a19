use Rattle.std.proofs.Common.{◌≡◌, ◌+◌, ◌-◌, suc, refl, sym, ◌∙◌, arith}
use Rattle.rpki_resources.proofs.PrefixLaws.{prefix-order, prefix-count, shared-prefix, all-numbers}
use Rattle.rpki_resources.proofs.prefix.is_prefix.Goals as goal

pub returns-then-high-low : goal.returns-then-high-low
returns-then-high-low c = (
  λ z. let no : ⊥ = cc in absurd no,
  λ p. let order = prefix-order c.args.low c.args.high p in absurd (omega (arith, order, c.if-high-low.true)),
)

pub returns-then-others : goal.returns-then-others
returns-then-others c = (
  λ z. all-numbers c.args.low c.args.high (omega (arith, c.ranges.high)) (omega (arith, c.if-others.true)),
  λ p. refl,
)

pub returns-then-count-power : goal.returns-then-count-power
returns-then-count-power c =
    let e : (c.args.high - c.args.low + 1) + c.args.low ≡ suc c.args.high = omega (arith, c.if-high-low.false) in (
      λ z. let no : ⊥ = cc in absurd no,
      λ p.
          let k = prefix-count c.args.low c.args.high (c.args.high - c.args.low + 1) c.ilog2.result e
          c.ilog2.ensures.power_le c.ilog2.ensures.next_power_gt p in
          absurd (c.if-count-power.true (k.0 ∙ sym c.power_of_two-power.ensures)),
    )

pub returns-then-low-power-ne0 : goal.returns-then-low-power-ne0
returns-then-low-power-ne0 c =
    let e : (c.args.high - c.args.low + 1) + c.args.low ≡ suc c.args.high = omega (arith, c.if-high-low.false) in (
      λ z. let no : ⊥ = cc in absurd no,
      λ p.
          let k = prefix-count c.args.low c.args.high (c.args.high - c.args.low + 1) c.ilog2.result e
          c.ilog2.ensures.power_le c.ilog2.ensures.next_power_gt p in
          absurd (c.if-low-power-ne0.true (rw c.power_of_two-power.ensures k.1)),
    )

pub returns : goal.returns
returns c = (
  λ z.
      shared-prefix c.args.low c.args.high c.ilog2.result (rw c.power_of_two-power.ensures at c.if-low-power-ne0.false)
      (omega (arith, c.if-high-low.false, c.if-count-power.false, c.power_of_two-power.ensures)),
  λ p. refl,
)
