use Rattle.std.proofs.Common.{◌≡◌, ◌≢◌, ◌∷◌, ◌++◌, [], refl, sym, ◌∙◌, length-append, arith}
use Rattle.std.proofs.lemmas.Bool.{iff_false}
use Rattle.rpki_der.specs.Cursor.{left}
use Rattle.rpki_resources.proofs.FollowLaws.{at-start, next-read, next-wrong, all-read, next-shorter, some-left}
use Rattle.rpki_resources.proofs.FollowLaws.{no-octets, tried-counts}
use Rattle.rpki_resources.proofs.view.count_blocks.Goals as goal

pub returns-then-is_empty : goal.returns-then-is_empty
returns-then-is_empty c = rw c.content.ensures
    (no-octets c.args.kind c.args.octets.now _
    (sym c.from_slice-rest.ensures ∙ c.is_empty.ensures.0 c.if-is_empty.true))

pub each-init : goal.each-init
each-init c = rw c.from_slice-rest.ensures (record
    { read = ([], at-start c.args.kind c.args.octets.now, refl); few = omega arith })

pub returns-in_err-block : goal.returns-in_err-block
returns-in_err-block c =
    let e = c.in_err-block.field-0.0 in
    let so = c.each.invariant.read in
    let some : left c.each.rest ≢ [] = iff_false c.is_empty-in-each.ensures c.each-test.true in
    tried-counts c.args.kind c.args.octets.now e _ c.from_residual.ensures
    (next-wrong c.args.kind c.args.octets.now c.each.last (left c.each.rest) so.0 so.1 e _ some c.in_err-block.ensures)

pub overflow_add-count : goal.overflow_add-count
overflow_add-count c =
    let some : left c.each.rest ≢ [] = iff_false c.is_empty-in-each.ensures c.each-test.true in
    let more = some-left (left c.each.rest) some in
    record { fits = omega (arith, c.each.invariant.few, more) }

pub each-preserved : goal.each-preserved
each-preserved c =
    let so = c.each.invariant.read in
    let some : left c.each.rest ≢ [] = iff_false c.is_empty-in-each.ensures c.each-test.true in
    let less = next-shorter c.args.kind c.each.last (left c.each.rest) c.in_ok-block.block _ c.in_ok-block.ensures in
    record {
      read = (
        so.0 ++ (c.in_ok-block.block ∷ []),
        next-read c.args.kind c.args.octets.now c.each.last (left c.each.rest) so.0 so.1 c.in_ok-block.block _ some
            c.in_ok-block.ensures,
        omega (arith, length-append so.0 (c.in_ok-block.block ∷ []), so.2),
      );
      few = omega (arith, less, c.each.invariant.few);
    }

pub returns : goal.returns
returns c =
    let so = c.each.invariant.read in
    let some : c.args.octets.now ≢ [] = λ z. iff_false c.is_empty.ensures c.if-is_empty.false
    (c.from_slice-rest.ensures ∙ z) in
    let end : left c.each.rest ≡ [] = c.is_empty-in-each.ensures.0 c.each-test.false in
    let is = all-read c.args.kind c.args.octets.now c.each.last (left c.each.rest) so.0 so.1 some end in
    (so.0, is.0, so.2, is.1)
