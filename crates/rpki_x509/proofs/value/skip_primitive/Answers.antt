use Rattle.std.proofs.Common.{false, refl}
use Rattle.std.proofs.lemmas.Bool.{iff_false}
use Rattle.rpki_der.specs.Leaves.{IsOnly}
use Rattle.rpki_der.proofs.LeavesLaws.{leaf-refused, leaf-accepted, leaf-malformed}
use Rattle.rpki_der.proofs.TriedLaws.{tried-refused}
use Rattle.rpki_x509.proofs.value.skip_primitive.Goals as goal

pub returns-in_err-contents : goal.returns-in_err-contents
returns-in_err-contents c =
    tried-refused _ _ _ _ _ _ _ c.from_residual.ensures
    (leaf-refused c.args.tag false (IsOnly c.args.expected.now) _ _ _ c.in_err-contents.field-0.0 refl
    c.in_err-contents.ensures)

pub returns-then-not-are_same : goal.returns-then-not-are_same
returns-then-not-are_same c =
    leaf-malformed c.args.tag false (IsOnly c.args.expected.now) _ c.in_ok-contents.contents.now _ _ _ _
    c.content.ensures refl c.in_ok-contents.ensures
    (λ v same. iff_false c.are_same.ensures c.if-not-are_same.true same)

pub returns : goal.returns
returns c =
    leaf-accepted c.args.tag false (IsOnly c.args.expected.now) _ c.in_ok-contents.contents.now _ tt
    c.in_ok-contents.ensures
    (c.are_same.ensures.0 c.if-not-are_same.false) (λ w is. refl)
