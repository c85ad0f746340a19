use Rattle.std.proofs.Common.{rules, true}
use Rattle.rpki_der.specs.TagName.{sequence}
use Rattle.rpki_der.proofs.EachLaws.{read-each-itself, leaf-some}
use Rattle.rpki.specs.ExtensionValue.{IsExtensionContents, SpellsExtension}
use Rattle.rpki.specs.ExtensionFault.{kept_extension}
use Rattle.rpki_cert.proofs.extension.list.take_each.Goals as goal

pub returns-clause-reads : goal.returns-clause-reads
returns-clause-reads g c = read-each-itself SpellsExtension kept_extension.fault _ (λ b a x h. search rules)
    (leaf-some sequence true IsExtensionContents) (λ v. v.items) _ _ _ c.take_each_with.ensures
