use Rattle.std.proofs.Common.{rules}
use Rattle.rpki_der.proofs.FormatLaws.{takes-around-one}
use Rattle.rpki_cert.specs.Cert.{extensions_tag}
use Rattle.rpki_fields.specs.OtherCert.{any_extension_list}
use Rattle.rpki_fields.proofs.other_cert.take_tagged.Goals as goal

pub returns : goal.returns
returns c =
    takes-around-one (λ v. v.items) extensions_tag any_extension_list _ (λ b a x h. search rules) _ _ _
    (rw c.new.ensures at c.in_constructed.ensures)
