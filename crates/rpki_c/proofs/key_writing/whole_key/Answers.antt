use Rattle.std.proofs.Common.{rules}
use Rattle.rpki_der.proofs.InsideLaws.{read-whole}
use Rattle.rpki.specs.PublicKey.{SpellsKey}
use Rattle.rpki.specs.KeyFault.{key}
use Rattle.rpki_c.proofs.key_writing.whole_key.Goals as goal

pub returns : goal.returns
returns c = read-whole (λ k. k) SpellsKey key.fault _ (λ b a x h. search rules) _ _
    (rw c.from_slice.ensures at c.whole.ensures)
