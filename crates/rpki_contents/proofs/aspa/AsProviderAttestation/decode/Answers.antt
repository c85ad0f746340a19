use Rattle.std.proofs.Common.{rules}
use Rattle.rpki_der.proofs.InsideLaws.{read-whole}
use Rattle.rpki_contents.specs.Aspa.{aspa}
use Rattle.rpki_contents.proofs.aspa.AsProviderAttestation.decode.Goals as goal

pub returns : goal.returns
returns c =
    rw c.from_slice.ensures at
    (read-whole (λ x. x) aspa.spells aspa.fault _ (λ b a x h. search rules) _ _ c.whole.ensures)
