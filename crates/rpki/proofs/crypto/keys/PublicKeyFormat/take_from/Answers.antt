use Rattle.std.proofs.Common.{rules, true}
use Rattle.rpki_der.specs.TagName.{sequence}
use Rattle.rpki_der.proofs.FirstFaultLaws.{read-parts-inside}
use Rattle.rpki.specs.AlgorithmFault.{format_parts}
use Rattle.rpki.specs.KeyFormat.{IsFormatContents, IsFormatName}
use Rattle.rpki.proofs.PartLaws.{unknown-inside}
use Rattle.rpki.proofs.crypto.keys.PublicKeyFormat.take_from.Goals as goal

pub returns-clause-reads : goal.returns-clause-reads
returns-clause-reads c = read-parts-inside (λ f. f) sequence true IsFormatContents format_parts.fault _
    (λ b a x h. search rules) _ _ _ c.in_sequence.ensures

pub returns-clause-unknown : goal.returns-clause-unknown
returns-clause-unknown c = unknown-inside IsFormatName _ _ (λ b a x h. search rules) _ _ _ c.in_sequence.ensures
