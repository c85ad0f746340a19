use Rattle.std.proofs.Common.{false, refl}
use Rattle.std.proofs.lemmas.Bool.{iff_false}
use Rattle.rpki_der.specs.Cursor.{left}
use Rattle.rpki_der.specs.Integer.{IsNumber}
use Rattle.rpki_der.specs.TagName.{integer}
use Rattle.rpki_der.proofs.LeavesLaws.{leaf-refused, leaf-accepted, leaf-malformed}
use Rattle.rpki_der.proofs.TriedLaws.{tried-refused}
use Rattle.rpki_der.proofs.cursor.Constructed.skip_u8_if.Goals as goal

pub returns-in_err-contents : goal.returns-in_err-contents
returns-in_err-contents c =
    tried-refused _ _ _ _ _ _ _ c.from_residual.ensures
    (leaf-refused integer false (IsNumber c.args.expected) _ _ _ c.in_err-contents.field-0.0 refl
    c.in_err-contents.ensures)

pub returns-then-not-is_number : goal.returns-then-not-is_number
returns-then-not-is_number c =
    let other = rw c.rest.ensures at (iff_false c.is_number.ensures c.if-not-is_number.true) in
    leaf-malformed integer false (IsNumber c.args.expected) _ (left c.in_ok-contents.contents) _ _ _ _
    c.content.ensures refl c.in_ok-contents.ensures (λ v h. other h)

pub returns : goal.returns
returns c =
    let is = rw c.rest.ensures at (c.is_number.ensures.0 c.if-not-is_number.false) in
    leaf-accepted integer false (IsNumber c.args.expected) _ (left c.in_ok-contents.contents) _ tt
    c.in_ok-contents.ensures is (λ w h. refl)
