use Rattle.std.proofs.Common.{false, refl}
use Rattle.rpki_der.specs.Cursor.{left}
use Rattle.rpki_der.specs.Integer.{IsUnsigned}
use Rattle.rpki_der.specs.TagName.{integer}
use Rattle.rpki_der.proofs.LeavesLaws.{leaf-refused, leaf-accepted, leaf-malformed}
use Rattle.rpki_der.specs.Number.{number_of}
use Rattle.rpki_der.proofs.IntegerLaws.{one-number}
use Rattle.rpki_der.proofs.TriedLaws.{tried-refused}
use Rattle.rpki_der.proofs.cursor.Constructed.take_unsigned.Goals as goal

pub returns-in_err-contents : goal.returns-in_err-contents
returns-in_err-contents c = tried-refused _ _ _ _ _ _ _ c.from_residual.ensures
    (leaf-refused integer false IsUnsigned _ _ _ c.in_err-contents.field-0.0 refl c.in_err-contents.ensures)

pub returns-in-Some : goal.returns-in-Some
returns-in-Some c =
    let is = rw c.rest.ensures at c.in-Some.ensures.value in
    leaf-accepted integer false IsUnsigned _ (left c.in_ok-contents.contents) _ (number_of c.in-Some.number)
    c.in_ok-contents.ensures is (λ w h. one-number w (number_of c.in-Some.number) (left c.in_ok-contents.contents) h is)

pub returns-in-None : goal.returns-in-None
returns-in-None c =
    let none = rw c.rest.ensures at c.in-None.ensures.none in
    leaf-malformed integer false IsUnsigned _ (left c.in_ok-contents.contents) _ _ _ _ c.content.ensures refl
    c.in_ok-contents.ensures none
