use Rattle.std.proofs.Common.{rules}
use Rattle.rpki_der.proofs.InsideLaws.{read-whole}
use Rattle.rpki_fields.specs.OtherCert.{cert_fields_of, other_cert}
use Rattle.rpki_fields.proofs.other_cert.OtherCert.decode.Goals as goal

pub returns : goal.returns
returns c =
    read-whole cert_fields_of other_cert.spells other_cert.fault _ (λ b a x h. search rules) _ _
    (rw c.from_slice.ensures at c.whole.ensures)
