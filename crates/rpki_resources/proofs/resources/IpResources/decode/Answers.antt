use Rattle.std.proofs.Common.{rules}
use Rattle.rpki_der.proofs.InsideLaws.{read-whole}
use Rattle.rpki_resources.specs.Kept.{kept_ip}
use Rattle.rpki_resources.proofs.resources.IpResources.decode.Goals as goal

pub returns : goal.returns
returns c = rw c.from_slice.ensures at (read-whole (λ v. v) kept_ip.spells kept_ip.fault _ (λ b a x h. search rules) _ _
    c.whole.ensures)
