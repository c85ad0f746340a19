use Rattle.std.proofs.Common.{sym, subst, ap, arith}
use Rattle.rpki_resources.specs.declared.choice.ResourcesChoice.TheVariants.{Blocks}
use Rattle.rpki_resources.specs.Extension.{SpellsAsResources}
use Rattle.rpki_resources.specs.Kept.{IsChoiceOf}
use Rattle.rpki_c.specs.Resources.{inherited_as, as_entry, view_count}
use Rattle.rpki_c.proofs.ResourceLaws.{as-kept, as-fit, inherited-entries, one-filled, as-too-many, as-filled}
use Rattle.rpki_c.proofs.ResourceLaws.{blocks-kept}
use Rattle.rpki_c.proofs.as_blocks.rpki_as_blocks.Goals as goal

pub returns-then-entries-all : goal.returns-then-entries-all
returns-then-entries-all c = as-too-many c.in-Ok.ensures.0 c.count_of-all.ensures c.if-entries-all.true

pub write_listed-requires-clause-fit : goal.write_listed-requires-clause-fit
write_listed-requires-clause-fit c =
    as-fit c.in-Blocks.listed c.args.octets.now
    (subst (λ x. SpellsAsResources x c.args.octets.now) c.in-Blocks.is c.in-Ok.ensures.0)

pub returns-in-Inherit : goal.returns-in-Inherit
returns-in-Inherit c =
    let k = as-kept c.in-Ok.found c.args.octets.now c.in-Ok.ensures.0 in
    let is = inherited-entries inherited_as as_entry k.0 (subst (IsChoiceOf k.0) c.in-Inherit.is k.1) in
    as-filled c.in-Ok.ensures.0 c.count_of-all.ensures k.0 k.1
    (rw is (one-filled 0 inherited_as c.args.entries.now
    (omega (arith, c.if-entries-all.false, c.count_of-all.ensures, ap view_count c.in-Inherit.is))))

pub returns-in-Blocks : goal.returns-in-Blocks
returns-in-Blocks c =
    let k = as-kept c.in-Ok.found c.args.octets.now c.in-Ok.ensures.0 in
    let held = blocks-kept c.in-Blocks.listed k.0 (subst (IsChoiceOf k.0) c.in-Blocks.is k.1) in
    as-filled c.in-Ok.ensures.0 c.count_of-all.ensures (Blocks held.0)
    (subst (IsChoiceOf (Blocks held.0)) (sym c.in-Blocks.is) held.1) (c.write_listed.ensures held.0 held.1)
