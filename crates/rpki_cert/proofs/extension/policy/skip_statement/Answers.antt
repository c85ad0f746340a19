use Rattle.std.proofs.Common.{false, refl, arith}
use Rattle.rpki_der.specs.TagName.{ia5_string}
use Rattle.rpki_der.proofs.LeavesLaws.{leaf-refused, leaf-accepted, leaf-malformed}
use Rattle.rpki_der.proofs.TriedLaws.{tried-refused}
use Rattle.rpki_cert.specs.ExtensionContent.{IsAnyIa5}
use Rattle.rpki_cert.proofs.extension.policy.skip_statement.Goals as goal

pub returns-in_err-contents : goal.returns-in_err-contents
returns-in_err-contents c =
    tried-refused _ _ _ _ _ _ _ c.from_residual.ensures
    (leaf-refused ia5_string false IsAnyIa5 _ _ _ c.in_err-contents.field-0.0 refl c.in_err-contents.ensures)

pub returns-then-not-is_ascii : goal.returns-then-not-is_ascii
returns-then-not-is_ascii c =
    leaf-malformed ia5_string false IsAnyIa5 _ c.in_ok-contents.contents.now _ _ _ _ c.content.ensures refl
    c.in_ok-contents.ensures (λ v h. let bad = c.if-not-is_ascii.ensures.cases in omega (arith, h bad.0, bad.1))

pub returns : goal.returns
returns c = leaf-accepted ia5_string false IsAnyIa5 _ c.in_ok-contents.contents.now _ tt c.in_ok-contents.ensures
    c.if-not-is_ascii.ensures.cases (λ w is. refl)
