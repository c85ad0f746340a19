use Rattle.rpki.proofs.NameAttributeLaws.{inside-name, no-name}
use Rattle.rpki.proofs.repository.x509.name.attributes.relatives_of.Goals as goal

pub returns-in-Ok : goal.returns-in-Ok
returns-in-Ok c = λ parts h. inside-name _ _ _ parts (rw c.from_slice-name.ensures at c.in-Ok.ensures) h

pub returns-in-Err : goal.returns-in-Err
returns-in-Err c = absurd (no-name _ _ _ (rw c.from_slice-name.ensures at c.in-Err.ensures) c.requires)
