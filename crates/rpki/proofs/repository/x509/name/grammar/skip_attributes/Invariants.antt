use Rattle.std.proofs.Common.{length, true}
use Rattle.rpki_der.specs.Prelude.{left, sequence}
use Rattle.rpki.specs.Name.{IsAttribute}
use Rattle.rpki.proofs.NameLaws.{Remains}
use Rattle.rpki.proofs.repository.x509.name.grammar.skip_attributes.Given as goal

abbrev pub invariant-attributes : goal.invariant-attributes
invariant-attributes l = Remains sequence true IsAttribute (left l.fn.contents) (left l.contents)

abbrev pub decreases-attributes : goal.decreases-attributes
decreases-attributes l = length (left l.contents)
