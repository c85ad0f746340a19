use Rattle.std.proofs.Common.{false, refl}
use Rattle.std.proofs.lemmas.Bool.{iff_false}
use Rattle.rpki_der.specs.Cursor.{left}
use Rattle.rpki_der.specs.Leaves.{IsOnly}
use Rattle.rpki_der.specs.TagName.{oid}
use Rattle.rpki_der.proofs.LeavesLaws.{leaf-refused, leaf-accepted, leaf-malformed}
use Rattle.rpki_der.proofs.TriedLaws.{tried-refused}
use Rattle.rpki_der.proofs.cursor.Constructed.take_only_oid.Goals as goal

pub returns-in_err-contents : goal.returns-in_err-contents
returns-in_err-contents c = tried-refused _ _ _ _ _ _ _ c.from_residual.ensures
    (leaf-refused oid false (IsOnly c.args.expected.now) _ _ _ c.in_err-contents.field-0.0 refl
    c.in_err-contents.ensures)

pub returns-then-not-rest_is : goal.returns-then-not-rest_is
returns-then-not-rest_is c =
    leaf-malformed oid false (IsOnly c.args.expected.now) _ (left c.in_ok-contents.contents) _ _ _ _ c.content.ensures
    refl c.in_ok-contents.ensures
    (λ v same. iff_false c.rest_is.ensures c.if-not-rest_is.true same)

pub returns : goal.returns
returns c =
    leaf-accepted oid false (IsOnly c.args.expected.now) _ (left c.in_ok-contents.contents) _ tt
    c.in_ok-contents.ensures (c.rest_is.ensures.0 c.if-not-rest_is.false) (λ w is. refl)
