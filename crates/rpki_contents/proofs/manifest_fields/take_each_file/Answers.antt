use Rattle.std.proofs.Common.{rules, true}
use Rattle.rpki_der.specs.TagName.{sequence}
use Rattle.rpki_der.proofs.EachLaws.{read-each-itself, leaf-some}
use Rattle.rpki_contents.specs.ListedFile.{kept_parts, kept_file}
use Rattle.rpki_contents.proofs.manifest_fields.take_each_file.Goals as goal

pub returns : goal.returns
returns g c =
    read-each-itself kept_file.spells kept_file.fault _ (λ b a x h. search rules)
    (leaf-some sequence true kept_parts.spells) (λ v. v.items) _ _ _ c.take_each_with.ensures
