use Rattle.std.proofs.Common.{rules}
use Rattle.rpki_der.proofs.InsideLaws.{read-whole-exactly}
use Rattle.rpki.specs.PublicKey.{SpellsKey}
use Rattle.rpki.specs.KeyFault.{key_view}
use Rattle.rpki.proofs.KeyFaultLaws.{view-outer}
use Rattle.rpki_c.proofs.keys.whole_key.Goals as goal

pub returns : goal.returns
returns c = read-whole-exactly (λ k. k) SpellsKey key_view.fault (λ s e k. (view-outer s e k).other) _
    (λ b a x h. search rules) _ _ (rw c.from_slice.ensures at c.whole.ensures)
