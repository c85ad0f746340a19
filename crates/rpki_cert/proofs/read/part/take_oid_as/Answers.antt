use Rattle.std.proofs.Common.{false, refl, sym, ◌∙◌}
use Rattle.std.proofs.lemmas.Bool.{iff_false}
use Rattle.rpki_der.specs.TagName.{oid}
use Rattle.rpki_der.proofs.LeavesLaws.{leaf-refused, leaf-accepted, leaf-malformed}
use Rattle.rpki_der.proofs.TriedLaws.{tried-refused}
use Rattle.rpki_cert.specs.Access.{IsOidAs}
use Rattle.rpki_cert.proofs.read.part.take_oid_as.Goals as goal

pub returns-in_err-contents : goal.returns-in_err-contents
returns-in_err-contents c =
    tried-refused _ _ _ _ _ _ _ c.from_residual.ensures
    (leaf-refused oid false (IsOidAs c.args.expected.0.now) _ _ _ c.in_err-contents.field-0.0 refl
    c.in_err-contents.ensures)

pub returns-then-not-is_valid : goal.returns-then-not-is_valid
returns-then-not-is_valid c =
    leaf-malformed oid false (IsOidAs c.args.expected.0.now) _ c.in_ok-contents.contents.now _ _ _ _ c.content.ensures
    refl c.in_ok-contents.ensures
    (λ v h. iff_false c.is_valid.ensures c.if-not-is_valid.true h.0)

pub returns : goal.returns
returns c =
    leaf-accepted oid false (IsOidAs c.args.expected.0.now) _ c.in_ok-contents.contents.now _ c.eq.result
    c.in_ok-contents.ensures
    (c.is_valid.ensures.0 c.if-not-is_valid.false, c.eq.ensures) (λ w is. is.1 ∙ sym c.eq.ensures)
