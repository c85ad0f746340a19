use Rattle.std.proofs.Common.{false, refl, sym, ◌∙◌}
use Rattle.rpki_der.specs.Prelude.{context_6, Finds, SpellsContents, IsLeafFault}
use Rattle.rpki_der.proofs.ReadingLaws.{Refusal-or-memory-where}
use Rattle.rpki_der.proofs.LeavesLaws.{shared-refused, leaf-accepted, leaf-malformed}
use Rattle.rpki_der.proofs.TriedLaws.{tried-refused}
use Rattle.rpki_text.specs.GeneralName.{IsHttpsText}
use Rattle.rpki_text.proofs.uri.https.Https.take_general_name.Goals as goal

pub returns-in_err-bytes : goal.returns-in_err-bytes
returns-in_err-bytes g c =
    tried-refused _ _ _ _ _ _ _ c.from_residual.ensures
    (shared-refused (Finds (SpellsContents context_6 false)) context_6 false IsHttpsText _ _ _ c.in_err-bytes.field-0.0
    refl c.in_err-bytes.ensures)

pub returns-in-Ok : goal.returns-in-Ok
returns-in-Ok g c =
    let is = c.in-Ok.ensures in
    leaf-accepted context_6 false IsHttpsText _ c.in_ok-bytes.bytes _ c.in-Ok.uri c.in_ok-bytes.ensures is
    (λ w h. h.0 ∙ sym is.0)

pub returns-in-Err : goal.returns-in-Err
returns-in-Err g c =
    let why = c.in-Err.ensures in
    Refusal-or-memory-where (Finds (SpellsContents context_6 false)) (IsLeafFault context_6 false IsHttpsText) _ _ _
    (λ z. absurd z)
    (leaf-malformed context_6 false IsHttpsText _ c.in_ok-bytes.bytes _ _ _ _ c.content.ensures refl
    c.in_ok-bytes.ensures (λ v h. let both = sym h.1 ∙ why in cc))
