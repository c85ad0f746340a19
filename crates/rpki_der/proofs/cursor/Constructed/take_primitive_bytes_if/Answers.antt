use Rattle.std.proofs.Common.{false, refl, []}
use Rattle.rpki_der.specs.Reading.{Finds}
use Rattle.rpki_der.specs.Values.{SpellsContents, IsContentsFault}
use Rattle.rpki_der.proofs.ReadingLaws.{Refusal-or-memory-where}
use Rattle.rpki_der.proofs.KeepLaws.{contents-stand}
use Rattle.rpki_der.proofs.TriedLaws.{tried-refused}
use Rattle.rpki_der.proofs.cursor.Constructed.take_primitive_bytes_if.Goals as goal

pub returns-in_err-contents : goal.returns-in_err-contents
returns-in_err-contents g c =
    let h = c.in_err-contents.ensures in
    let t = c.args.tag in
    tried-refused _ _ _ _ _ _ _ c.from_residual.ensures
    (Refusal-or-memory-where (Finds (SpellsContents t false)) (IsContentsFault t false) _ _ c.in_err-contents.field-0.0
    (λ z. absurd z) (record { unchanged = refl; refuses = h.refuses; kind = h.kind }))

pub keep_part-requires-clause-stands : goal.keep_part-requires-clause-stands
keep_part-requires-clause-stands g c =
    rw c.rest.ensures (contents-stand c.args.tag false _ _ _ [] _ c.in_ok-contents.ensures.spells refl)
