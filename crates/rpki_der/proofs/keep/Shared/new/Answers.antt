use Rattle.rpki_der.proofs.KeepLaws.{all-in}
use Rattle.rpki_der.proofs.keep.Shared.new.Goals as goal

pub returns : goal.returns
returns c = rw c.len.ensures.value (all-in c.args.bytes.now)
