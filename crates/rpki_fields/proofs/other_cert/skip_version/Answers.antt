use Rattle.std.proofs.Common.{rules}
use Rattle.rpki_der.specs.Prelude.{this_number}
use Rattle.rpki_der.proofs.FormatLaws.{takes-around-one}
use Rattle.rpki_cert.specs.Cert.{version_tag}
use Rattle.rpki_fields.proofs.other_cert.skip_version.Goals as goal

pub returns : goal.returns
returns c =
    takes-around-one (λ _. tt) version_tag (this_number 2) _ (λ b a x h. search rules) _ _ _
    (rw c.new.ensures at c.in_constructed.ensures)
