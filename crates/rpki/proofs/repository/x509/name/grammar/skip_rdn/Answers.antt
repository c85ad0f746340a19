use Rattle.std.proofs.Common.{rules, true}
use Rattle.rpki_der.specs.TagName.{set}
use Rattle.rpki_der.proofs.FirstFaultLaws.{read-parts-inside}
use Rattle.rpki.specs.Name.{SpellsAttribute, SpellsSome}
use Rattle.rpki.specs.AnyValue.{SpellsAny}
use Rattle.rpki.specs.NameFault.{attributes}
use Rattle.rpki.proofs.repository.x509.name.grammar.skip_rdn.Goals as goal

pub returns : goal.returns
returns c = read-parts-inside (λ u. tt) set true (SpellsAny (SpellsSome SpellsAttribute)) attributes.fault _
    (λ b a x h. search rules) _ _ _ c.in_set.ensures
