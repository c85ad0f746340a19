use Rattle.std.proofs.Common.{arith, false, refl, sym}
use Rattle.rpki_der.specs.TagName.{context_6}
use Rattle.rpki_der.specs.Text.{IsIa5Text}
use Rattle.rpki_der.proofs.LeavesLaws.{leaf-refused, leaf-accepted, leaf-malformed}
use Rattle.rpki_der.proofs.TriedLaws.{tried-refused}
use Rattle.rpki_cert.proofs.extension.general_name.take_text.Goals as goal

pub returns-in_err-text : goal.returns-in_err-text
returns-in_err-text c = tried-refused _ _ _ _ _ _ _ c.from_residual.ensures
    (leaf-refused context_6 false IsIa5Text _ _ _ c.in_err-text.field-0.0 refl c.in_err-text.ensures)

pub returns-then-not-is_ascii : goal.returns-then-not-is_ascii
returns-then-not-is_ascii c =
    leaf-malformed context_6 false IsIa5Text _ c.in_ok-text.text.now _ _ _ _ c.content.ensures refl c.in_ok-text.ensures
    (λ text h. let bad = c.if-not-is_ascii.ensures.cases in omega (arith, h.1 bad.0, bad.1))

pub returns : goal.returns
returns c = leaf-accepted context_6 false IsIa5Text _ c.in_ok-text.text.now _ _ c.in_ok-text.ensures
    (refl, c.if-not-is_ascii.ensures.cases) (λ w h. sym h.0)
