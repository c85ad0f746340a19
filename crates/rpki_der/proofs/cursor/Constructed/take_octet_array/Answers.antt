use Rattle.std.proofs.Common.{false, refl, sym, ◌∙◌}
use Rattle.rpki_der.specs.Cursor.{left}
use Rattle.rpki_der.specs.Leaves.{IsSized}
use Rattle.rpki_der.specs.TagName.{octet_string}
use Rattle.rpki_der.proofs.LeavesLaws.{leaf-refused, leaf-accepted, leaf-malformed}
use Rattle.rpki_der.proofs.TriedLaws.{tried-refused}
use Rattle.rpki_der.proofs.cursor.Constructed.take_octet_array.Goals as goal

pub returns-in_err-contents : goal.returns-in_err-contents
returns-in_err-contents g c =
    tried-refused _ _ _ _ _ _ _ c.from_residual.ensures
    (leaf-refused octet_string false (IsSized g.row.N) _ _ _ c.in_err-contents.field-0.0 refl c.in_err-contents.ensures)

pub returns-in-Ok : goal.returns-in-Ok
returns-in-Ok g c =
    let chunk = c.in-Ok.ensures.1 in
    let same = rw c.rest.ensures at chunk.same in
    let long = rw c.rest.ensures at chunk.long in
    leaf-accepted octet_string false (IsSized g.row.N) _ (left c.in_ok-contents.contents) _ c.in-Ok.octets
    c.in_ok-contents.ensures (sym same, long) (λ w h. sym h.0 ∙ sym same)

pub returns-in-Err : goal.returns-in-Err
returns-in-Err g c =
    let other = rw c.rest.ensures at c.in-Err.ensures.1 in
    leaf-malformed octet_string false (IsSized g.row.N) _ (left c.in_ok-contents.contents) _ _ _ _ c.content.ensures
    refl c.in_ok-contents.ensures (λ v h. other h.1)
