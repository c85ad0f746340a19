use Rattle.rpki_der.specs.Reading.{Refuses, UnlessMemory}
use Rattle.rpki_der.specs.FirstFault.FirstFault.{AtPart}
use Rattle.rpki_der.proofs.ReadingLaws.{UnlessMemory-weaker}
use Rattle.rpki_der.proofs.ComposedLaws.{nothing-whole}
use Rattle.rpki.proofs.SigningLaws.{no-value}
use Rattle.rpki_c.specs.Identifier.{IsOther}
use Rattle.rpki_c.specs.Signed.{SpellsRpkiAlgorithm, AreRpkiParts}
use Rattle.rpki_c.proofs.SignedLaws.{split-value, no-front}
use Rattle.rpki_c.proofs.signed.read_parts.Goals as goal

pub returns-in-Err-clause-reads : goal.returns-in-Err-clause-reads
returns-in-Err-clause-reads c =
    let s = c.args.contents.now in
    let e = c.in-Err.e in
    let h = c.in-Err.ensures.refused in
    let none : UnlessMemory e (Refuses AreRpkiParts s) =
    UnlessMemory-weaker e (no-value SpellsRpkiAlgorithm s) h.refuses in (
      UnlessMemory-weaker e (no-front (IsOther SpellsRpkiAlgorithm) s) h.refuses,
      (UnlessMemory-weaker e (nothing-whole AreRpkiParts s) none, AtPart none (AtPart h.refuses h.kind)),
    )

pub returns-clause-reads : goal.returns-clause-reads
returns-clause-reads c =
    c.read_behind.ensures.reads c.args.contents.now
    (split-value c.in-Ok.size c.split_at.ensures.front c.split_at.ensures.back c.in-Ok.ensures.accepted)

pub returns-clause-parts : goal.returns-clause-parts
returns-clause-parts c =
    c.read_behind.ensures.parts c.args.contents.now
    (split-value c.in-Ok.size c.split_at.ensures.front c.split_at.ensures.back c.in-Ok.ensures.accepted)
