use Rattle.std.proofs.Common.{rules, true}
use Rattle.rpki_der.specs.TagName.{sequence}
use Rattle.rpki_der.proofs.FirstFaultLaws.{read-parts-inside}
use Rattle.rpki.specs.PublicKey.{IsKeyContents}
use Rattle.rpki.specs.KeyFault.{key_view_parts}
use Rattle.rpki.proofs.crypto.keys.view.PublicKeyView.take_from.Goals as goal

pub returns : goal.returns
returns c = read-parts-inside (λ k. k) sequence true IsKeyContents key_view_parts.fault _ (λ b a x h. search rules) _ _
    _ c.in_sequence.ensures
