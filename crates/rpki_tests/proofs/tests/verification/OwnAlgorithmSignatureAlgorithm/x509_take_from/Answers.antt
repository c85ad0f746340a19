use Rattle.std.proofs.Common.{rules, Ok, Err, [], ◌∷◌}
use Rattle.rpki_der.proofs.TriedLaws.{tried-refused}
use Rattle.rpki.proofs.PartLaws.{only-named}
use Rattle.rpki_tests.proofs.tests.verification.OwnAlgorithmSignatureAlgorithm.x509_take_from.Goals as goal

pub returns-in_err-in_sequence : goal.returns-in_err-in_sequence
returns-in_err-in_sequence c =
    let e = c.in_err-in_sequence.field-0.0 in
    tried-refused _ _ _ _ _ _ _ c.from_residual.ensures
    (only-named (42 ∷ 3 ∷ []) _ (λ b a x h. search rules) _ _ (Err e) c.in_err-in_sequence.ensures)

pub returns : goal.returns
returns c = only-named (42 ∷ 3 ∷ []) _ (λ b a x h. search rules) _ _ (Ok c.in_ok-in_sequence.field-0)
    c.in_ok-in_sequence.ensures
