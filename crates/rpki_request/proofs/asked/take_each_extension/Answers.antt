use Rattle.std.proofs.Common.{rules, true}
use Rattle.rpki_der.specs.TagName.{sequence}
use Rattle.rpki_der.proofs.EachLaws.{read-each-itself, leaf-some}
use Rattle.rpki.specs.Prelude.{extension_fields, kept_extension}
use Rattle.rpki_request.proofs.asked.take_each_extension.Goals as goal

pub returns : goal.returns
returns g c =
    read-each-itself kept_extension.spells kept_extension.fault _ (λ b a x h. search rules)
    (leaf-some sequence true extension_fields.spells) (λ v. v.items) _ _ _ c.take_each_with.ensures
