use Rattle.std.proofs.Common.{rules}
use Rattle.rpki_der.proofs.InsideLaws.{read-whole}
use Rattle.rpki_crl.specs.Crl.{crl}
use Rattle.rpki_crl.proofs.crl.Crl.decode.Goals as goal

pub returns : goal.returns
returns c =
    read-whole (λ x. x) crl.spells crl.fault _ (λ b a x h. search rules) _ _ (rw c.new.ensures at c.whole_with.ensures)
