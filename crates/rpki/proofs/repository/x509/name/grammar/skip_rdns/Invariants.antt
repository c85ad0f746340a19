use Rattle.std.proofs.Common.{length, true}
use Rattle.rpki_der.specs.Prelude.{left, set}
use Rattle.rpki.specs.Name.{SpellsSome, SpellsAttribute}
use Rattle.rpki.proofs.NameLaws.{Remains}
use Rattle.rpki.proofs.repository.x509.name.grammar.skip_rdns.Given as goal

abbrev pub invariant-relatives : goal.invariant-relatives
invariant-relatives l = Remains set true (SpellsSome SpellsAttribute) (left l.fn.contents) (left l.contents)

abbrev pub decreases-relatives : goal.decreases-relatives
decreases-relatives l = length (left l.contents)
