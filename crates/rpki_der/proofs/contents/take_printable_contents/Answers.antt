use Rattle.std.proofs.Common.{false, refl, sym}
use Rattle.std.proofs.lemmas.Bool.{iff_false}
use Rattle.rpki_der.specs.Text.{IsPrintableText}
use Rattle.rpki_der.specs.TagName.{printable_string}
use Rattle.rpki_der.proofs.LeavesLaws.{leaf-refused, leaf-accepted, leaf-malformed}
use Rattle.rpki_der.proofs.TriedLaws.{tried-refused}
use Rattle.rpki_der.proofs.contents.take_printable_contents.Goals as goal

pub returns-in_err-contents : goal.returns-in_err-contents
returns-in_err-contents g c = tried-refused _ _ _ _ _ _ _ c.from_residual.ensures
    (leaf-refused printable_string false IsPrintableText _ _ _ c.in_err-contents.field-0.0 refl
    c.in_err-contents.ensures)

pub returns : goal.returns
returns g c =
    let m = g.C.Cursor.octets_left c.in_ok-contents.contents in
    let is = (rw c.octets.ensures at c.is_printable_string.ensures).0 c.if-not-is_printable_string.false in
    leaf-accepted printable_string false IsPrintableText _ m _ m c.in_ok-contents.ensures is (λ w h. sym h.0)

pub returns-then-not-is_printable_string : goal.returns-then-not-is_printable_string
returns-then-not-is_printable_string g c =
    let whole = rw c.octets.ensures at c.is_printable_string.ensures in
    leaf-malformed printable_string false IsPrintableText _ (g.C.Cursor.octets_left c.in_ok-contents.contents) _ _ _ _
    c.content.ensures refl c.in_ok-contents.ensures
    (λ text h. iff_false whole c.if-not-is_printable_string.true (refl, h.1))
