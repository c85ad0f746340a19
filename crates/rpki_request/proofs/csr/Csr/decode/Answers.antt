use Rattle.std.proofs.Common.{rules}
use Rattle.rpki_der.proofs.InsideLaws.{read-whole}
use Rattle.rpki_request.specs.Request.{request}
use Rattle.rpki_request.proofs.csr.Csr.decode.Goals as goal

pub returns : goal.returns
returns c =
    read-whole (λ x. x) request.spells request.fault _ (λ b a x h. search rules) _ _
    (rw c.new.ensures at c.whole_with.ensures)
