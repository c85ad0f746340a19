use Rattle.std.proofs.Common.{rules, true}
use Rattle.rpki_der.specs.TagName.{sequence}
use Rattle.rpki_der.proofs.FirstFaultLaws.{read-parts-inside}
use Rattle.rpki.specs.Name.{SpellsRelative, SpellsSome}
use Rattle.rpki.specs.AnyValue.{SpellsAny}
use Rattle.rpki.specs.NameFault.{relatives}
use Rattle.rpki.proofs.repository.x509.name.grammar.skip_name.Goals as goal

pub returns : goal.returns
returns c = read-parts-inside (λ u. tt) sequence true (SpellsAny (SpellsSome SpellsRelative)) relatives.fault _
    (λ b a x h. search rules) _ _ _ c.in_sequence.ensures
