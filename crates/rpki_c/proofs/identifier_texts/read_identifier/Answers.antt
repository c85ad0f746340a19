use Rattle.std.proofs.Common.{false, rules}
use Rattle.rpki_der.specs.TagName.{octet_string}
use Rattle.rpki_der.proofs.InsideLaws.{read-whole-exactly}
use Rattle.rpki_der.proofs.LeavesLaws.{leaf-no-memory}
use Rattle.rpki.specs.KeyIdentifier.{IsKeyIdentifier, SpellsKeyIdentifier, IsIdentifierFault}
use Rattle.rpki_c.proofs.identifier_texts.read_identifier.Goals as goal

pub returns : goal.returns
returns c =
    read-whole-exactly (λ k. k) SpellsKeyIdentifier (IsIdentifierFault IsKeyIdentifier)
    (λ s e k. leaf-no-memory octet_string false IsKeyIdentifier s e k.fault) _ (λ b a x h. search rules) _ _
    (rw c.from_slice.ensures at c.whole.ensures)
