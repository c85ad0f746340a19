use Rattle.std.proofs.Common.{rules, map}
use Rattle.rpki_der.proofs.InsideLaws.{read-whole}
use Rattle.rpki_cert.specs.AccessDescription.{description_of}
use Rattle.rpki_fields.specs.AccessText.{any_access}
use Rattle.rpki_fields.proofs.access_text.read_list.Goals as goal

pub returns : goal.returns
returns c =
    read-whole (λ v. map description_of v.items) any_access.spells any_access.fault _ (λ b a x h. search rules) _ _
    (rw c.from_slice.ensures at c.whole.ensures)
