use Rattle.std.proofs.Common.{rules}
use Rattle.rpki_der.proofs.InsideLaws.{read-whole}
use Rattle.rpki_request.specs.Request.{descriptions_in, access}
use Rattle.rpki_request.proofs.access.read_access.Goals as goal

pub returns : goal.returns
returns c =
    read-whole (λ v. descriptions_in v.items) access.spells access.fault _ (λ b a x h. search rules) _ _
    (rw c.from_slice.ensures at c.whole.ensures)
