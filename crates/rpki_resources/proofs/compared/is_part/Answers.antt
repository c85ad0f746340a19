use Rattle.std.proofs.Common.{◌≢◌, []}
use Rattle.std.proofs.lemmas.Bool.{iff_false}
use Rattle.rpki_der.specs.Cursor.{left}
use Rattle.rpki_resources.proofs.UnreadLaws.{if-some, if-none}
use Rattle.rpki_resources.proofs.ComparedLaws.{first-wrong, merge-start, next-outer, next-inner, outer-wrong}
use Rattle.rpki_resources.proofs.ComparedLaws.{inner-wrong, rest-wrong, nothing-around, all-held, not-held}
use Rattle.rpki_resources.proofs.compared.is_part.Goals as goal

pub returns-in_default-clause-none : goal.returns-in_default-clause-none
returns-in_default-clause-none c = λ bs cs l m. first-wrong c.args.kind (left c.args.part) _ c.in_default.field-0
    c.in_default.ensures bs l

pub returns-in_default-take_next-clause-none : goal.returns-in_default-take_next-clause-none
returns-in_default-take_next-clause-none c = λ bs cs l m. first-wrong c.args.kind (left c.args.whole) _
    c.in_default-take_next.field-0 c.in_default-take_next.ensures cs m

pub pairs-init : goal.pairs-init
pairs-init c = merge-start c.args.kind (left c.args.part) (left c.args.whole) c.in-Ok.inner c.in-Ok-take_next.outer _ _
    c.in-Ok.ensures c.in-Ok-take_next.ensures

pub returns-then-is_empty-clause-some : goal.returns-then-is_empty-clause-some
returns-then-is_empty-clause-some c =
    if-some c.answered.result
    (λ b h. nothing-around c.args.kind (left c.args.part) (left c.args.whole) c.pairs.inner c.pairs.outer
    (left c.pairs.inners) (left c.pairs.outers) c.pairs.invariant h.1.0 h.1.1 b h.0 c.if-outer-inner.true
    (c.is_empty.ensures.0 c.if-is_empty.true))
    c.answered.ensures.some

pub returns-then-is_empty-clause-none : goal.returns-then-is_empty-clause-none
returns-then-is_empty-clause-none c = if-none c.answered.result
    (rest-wrong c.args.kind (left c.args.part) (left c.args.whole) c.pairs.inner c.pairs.outer (left c.pairs.inners)
    (left c.pairs.outers) c.pairs.invariant) c.answered.ensures.none

pub pairs-preserved-in-Ok-take_next-2 : goal.pairs-preserved-in-Ok-take_next-2
pairs-preserved-in-Ok-take_next-2 c =
    let some : left c.pairs.outers ≢ [] = iff_false c.is_empty.ensures c.if-is_empty.false in
    next-outer c.args.kind (left c.args.part) (left c.args.whole) c.pairs.inner c.pairs.outer (left c.pairs.inners)
    (left c.pairs.outers) c.pairs.invariant c.if-outer-inner.true some c.in-Ok-take_next-2.block _
    c.in-Ok-take_next-2.ensures

pub returns-in-Err-clause-none : goal.returns-in-Err-clause-none
returns-in-Err-clause-none c =
    let some : left c.pairs.outers ≢ [] = iff_false c.is_empty.ensures c.if-is_empty.false in
    outer-wrong c.args.kind (left c.args.part) (left c.args.whole) c.pairs.inner c.pairs.outer (left c.pairs.inners)
    (left c.pairs.outers) c.pairs.invariant _ c.in-Err.field-0 some c.in-Err.ensures

pub returns-then-is_empty-2-clause-some : goal.returns-then-is_empty-2-clause-some
returns-then-is_empty-2-clause-some c =
    let held = c.holds.ensures.0 c.if-holds.true in
    if-some c.answered-then-is_empty-2.result
    (λ b h. all-held c.args.kind (left c.args.part) (left c.args.whole) c.pairs.inner c.pairs.outer
    (left c.pairs.inners) (left c.pairs.outers) c.pairs.invariant h.1.0 h.1.1 b h.0 held.0 held.1
    (c.is_empty-then-holds.ensures.0 c.if-is_empty-2.true))
    c.answered-then-is_empty-2.ensures.some

pub returns-then-is_empty-2-clause-none : goal.returns-then-is_empty-2-clause-none
returns-then-is_empty-2-clause-none c = if-none c.answered-then-is_empty-2.result
    (rest-wrong c.args.kind (left c.args.part) (left c.args.whole) c.pairs.inner c.pairs.outer (left c.pairs.inners)
    (left c.pairs.outers) c.pairs.invariant) c.answered-then-is_empty-2.ensures.none

pub pairs-preserved : goal.pairs-preserved
pairs-preserved c =
    let held = c.holds.ensures.0 c.if-holds.true in
    let some : left c.pairs.inners ≢ [] = iff_false c.is_empty-then-holds.ensures c.if-is_empty-2.false in
    next-inner c.args.kind (left c.args.part) (left c.args.whole) c.pairs.inner c.pairs.outer (left c.pairs.inners)
    (left c.pairs.outers) c.pairs.invariant held.0 held.1 some c.in-Ok-take_next-3.block _
    c.in-Ok-take_next-3.ensures

pub returns-in-Err-take_next-clause-none : goal.returns-in-Err-take_next-clause-none
returns-in-Err-take_next-clause-none c =
    let some : left c.pairs.inners ≢ [] = iff_false c.is_empty-then-holds.ensures c.if-is_empty-2.false in
    inner-wrong c.args.kind (left c.args.part) (left c.args.whole) c.pairs.inner c.pairs.outer (left c.pairs.inners)
    (left c.pairs.outers) c.pairs.invariant _ c.in-Err-take_next.field-0 some c.in-Err-take_next.ensures

pub returns-else-holds-clause-some : goal.returns-else-holds-clause-some
returns-else-holds-clause-some c =
    if-some c.answered-else-holds.result
    (λ b h. not-held c.args.kind (left c.args.part) (left c.args.whole) c.pairs.inner c.pairs.outer
    (left c.pairs.inners) (left c.pairs.outers) c.pairs.invariant h.1.0 h.1.1 b h.0 c.if-outer-inner.false
    (iff_false c.holds.ensures c.if-holds.false))
    c.answered-else-holds.ensures.some

pub returns-else-holds-clause-none : goal.returns-else-holds-clause-none
returns-else-holds-clause-none c = if-none c.answered-else-holds.result
    (rest-wrong c.args.kind (left c.args.part) (left c.args.whole) c.pairs.inner c.pairs.outer (left c.pairs.inners)
    (left c.pairs.outers) c.pairs.invariant) c.answered-else-holds.ensures.none
