use Rattle.std.proofs.Common.{rules}
use Rattle.rpki_der.specs.TagName.{set}
use Rattle.rpki_der.proofs.FormatLaws.{takes-around-one}
use Rattle.rpki_objects.specs.SignedObject.{signer_of, signer_fields_of, signer_info}
use Rattle.rpki_objects.proofs.signed_data.take_signers.Goals as goal

pub returns : goal.returns
returns g c =
    takes-around-one (λ x. signer_fields_of (signer_of x)) set (signer_info c.args.strict) _ (λ b a x h. search rules) _
    _ _
    c.in_set_with.ensures
