use Rattle.std.proofs.Common.{rules, subst}
use Rattle.rpki_der.proofs.InsideLaws.{read-whole-exactly}
use Rattle.rpki_resources.specs.Extension.{SpellsIpResources, IsIpResourcesFault}
use Rattle.rpki_resources.proofs.NoMemoryLaws.{ip-no-memory}
use Rattle.rpki_records.proofs.resources.read_addresses.Goals as goal

pub returns : goal.returns
returns c =
    read-whole-exactly (λ x. x) SpellsIpResources IsIpResourcesFault
    (λ s e k z. ip-no-memory s (subst (IsIpResourcesFault s) z k)) _ (λ b a x h. search rules) _ _
    (rw c.from_slice.ensures at c.whole.ensures)
