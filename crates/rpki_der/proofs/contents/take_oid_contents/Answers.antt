use Rattle.std.proofs.Common.{false, refl, sym}
use Rattle.std.proofs.lemmas.Bool.{iff_false}
use Rattle.rpki_der.specs.Leaves.{IsOidOf}
use Rattle.rpki_der.specs.TagName.{oid}
use Rattle.rpki_der.proofs.LeavesLaws.{leaf-refused, leaf-accepted, leaf-malformed}
use Rattle.rpki_der.proofs.TriedLaws.{tried-refused}
use Rattle.rpki_der.proofs.contents.take_oid_contents.Goals as goal

pub returns-in_err-contents : goal.returns-in_err-contents
returns-in_err-contents g c = tried-refused _ _ _ _ _ _ _ c.from_residual.ensures
    (leaf-refused oid false IsOidOf _ _ _ c.in_err-contents.field-0.0 refl c.in_err-contents.ensures)

pub returns-then-not-is_oid : goal.returns-then-not-is_oid
returns-then-not-is_oid g c =
    let none = rw c.octets.ensures at (iff_false c.is_oid.ensures c.if-not-is_oid.true) in
    leaf-malformed oid false IsOidOf _ (g.C.Cursor.octets_left c.in_ok-contents.contents) _ _ _ _ c.content.ensures refl
    c.in_ok-contents.ensures (λ v h. none h.1)

pub returns : goal.returns
returns g c =
    let m = g.C.Cursor.octets_left c.in_ok-contents.contents in
    let is = rw c.octets.ensures at (c.is_oid.ensures.0 c.if-not-is_oid.false) in
    leaf-accepted oid false IsOidOf _ m _ m c.in_ok-contents.ensures (refl, is) (λ w h. sym h.0)
