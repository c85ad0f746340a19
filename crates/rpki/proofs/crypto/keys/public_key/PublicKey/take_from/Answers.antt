use Rattle.std.proofs.Common.{rules, true}
use Rattle.rpki_der.specs.TagName.{sequence}
use Rattle.rpki_der.proofs.FirstFaultLaws.{read-parts-inside}
use Rattle.rpki.specs.PublicKey.{IsKeyContents}
use Rattle.rpki.specs.KeyFault.{key_parts}
use Rattle.rpki.proofs.crypto.keys.public_key.PublicKey.take_from.Goals as goal

pub returns : goal.returns
returns g c = read-parts-inside (λ k. k) sequence true IsKeyContents key_parts.fault _ (λ b a x h. search rules) _ _ _
    c.in_sequence_with.ensures
