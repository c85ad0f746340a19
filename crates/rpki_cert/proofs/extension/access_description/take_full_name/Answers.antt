use Rattle.std.proofs.Common.{rules}
use Rattle.rpki_der.specs.Cursor.{left}
use Rattle.rpki_der.proofs.FormatLaws.{takes-around-one}
use Rattle.rpki_cert.specs.Access.{context_0}
use Rattle.rpki_cert.specs.AccessDescription.{names}
use Rattle.rpki_cert.proofs.extension.access_description.take_full_name.Goals as goal

pub returns : goal.returns
returns c = takes-around-one left context_0 names _ (λ b a x h. search rules) _ _ _
    (rw c.new.ensures at c.in_constructed.ensures)
