use Rattle.std.proofs.Common.{rules, subst}
use Rattle.rpki_der.proofs.InsideLaws.{read-whole-exactly}
use Rattle.rpki_resources.specs.Extension.{SpellsAsResources, IsAsResourcesFault}
use Rattle.rpki_resources.proofs.NoMemoryLaws.{as-no-memory}
use Rattle.rpki_records.proofs.resources.read_numbers.Goals as goal

pub returns : goal.returns
returns c =
    read-whole-exactly (λ x. x) SpellsAsResources IsAsResourcesFault
    (λ s e k z. as-no-memory s (subst (IsAsResourcesFault s) z k)) _ (λ b a x h. search rules) _ _
    (rw c.from_slice.ensures at c.whole.ensures)
