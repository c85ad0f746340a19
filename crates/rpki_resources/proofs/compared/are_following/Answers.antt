use Rattle.std.proofs.Common.{◌≢◌, []}
use Rattle.std.proofs.lemmas.Bool.{iff_false}
use Rattle.rpki_der.specs.Cursor.{left}
use Rattle.rpki_resources.proofs.ComparedLaws.{follow-on, follow-back, not-follow}
use Rattle.rpki_resources.proofs.compared.are_following.Goals as goal

pub each-preserved : goal.each-preserved
each-preserved c =
    let some : left c.each.rest ≢ [] = iff_false c.is_empty.ensures c.each-test.true in (
      λ z. follow-on c.args.kind c.each.high (left c.each.rest) c.in-Ok.block _ some c.in-Ok.ensures
          (c.each.invariant.0 z),
      λ z. c.each.invariant.1 (follow-back c.args.kind c.each.high (left c.each.rest) c.in-Ok.block _ some
          c.in-Ok.ensures z),
    )

pub returns-in-Err : goal.returns-in-Err
returns-in-Err c =
    let some : left c.each.rest ≢ [] = iff_false c.is_empty.ensures c.each-test.true in (
      λ z. let wrong : ⊥ = cc in absurd wrong,
      λ z. absurd (not-follow c.args.kind c.each.high (left c.each.rest) _ c.in-Err.field-0 some c.in-Err.ensures
          (c.each.invariant.0 z)),
    )
