use Rattle.std.proofs.Common.{rules}
use Rattle.rpki_der.proofs.InsideLaws.{read-whole}
use Rattle.rpki.specs.Name.{SpellsNameOctets}
use Rattle.rpki.specs.NameFault.{IsNameFault}
use Rattle.rpki.proofs.repository.x509.name.Name.decode.Goals as goal

pub returns : goal.returns
returns c = read-whole (λ n. n) SpellsNameOctets IsNameFault _ (λ b a x h. search rules) _ _
    (rw c.new.ensures at c.whole_with.ensures)
