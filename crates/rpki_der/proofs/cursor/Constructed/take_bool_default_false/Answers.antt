use Rattle.std.proofs.Common.{true, false, refl}
use Rattle.std.proofs.lemmas.Bool.{iff_false}
use Rattle.std.proofs.lemmas.Result.{err_from_is_err_and}
use Rattle.rpki_der.specs.Cursor.{left}
use Rattle.rpki_der.specs.Leaves.{IsOnly, boolean_contents}
use Rattle.rpki_der.specs.TagName.{boolean}
use Rattle.rpki_der.proofs.LeavesLaws.{leaf-refused, leaf-accepted, leaf-malformed}
use Rattle.rpki_der.proofs.cursor.Constructed.take_bool_default_false.Goals as goal

pub returns-in_err-contents : goal.returns-in_err-contents
returns-in_err-contents c =
    let p = err_from_is_err_and c.from_residual.result c.from_residual.ensures.1 in
    rw (p.1, p.2) (
      c.has_tag.ensures.0 c.if-not-has_tag.false,
      leaf-refused boolean false
          (IsOnly (boolean_contents true)) _ _ _ c.in_err-contents.field-0.0 refl c.in_err-contents.ensures,
    )

pub returns-then-not-rest_is : goal.returns-then-not-rest_is
returns-then-not-rest_is c = (
  c.has_tag.ensures.0 c.if-not-has_tag.false,
  leaf-malformed boolean false (IsOnly (boolean_contents true)) _
      (left c.in_ok-contents.contents) _ _ _ _ c.content.ensures refl c.in_ok-contents.ensures
      (λ v same. iff_false c.rest_is.ensures c.if-not-rest_is.true same),
)

pub returns : goal.returns
returns c = (
  c.has_tag.ensures.0 c.if-not-has_tag.false,
  leaf-accepted boolean false (IsOnly (boolean_contents true)) _
      (left c.in_ok-contents.contents) _ tt c.in_ok-contents.ensures (c.rest_is.ensures.0 c.if-not-rest_is.false)
      (λ w h. refl),
)
