use Rattle.std.proofs.Common.{rules}
use Rattle.rpki_der.proofs.InsideLaws.{read-whole}
use Rattle.rpki.specs.PublicKey.{SpellsKey}
use Rattle.rpki.specs.KeyFault.{key}
use Rattle.rpki.proofs.crypto.keys.public_key.PublicKey.decode.Goals as goal

pub returns : goal.returns
returns c =
    read-whole (λ k. k) SpellsKey key.fault _ (λ b a x h. search rules) _ _ (rw c.new.ensures at c.whole_with.ensures)
