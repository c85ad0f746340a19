use Rattle.std.proofs.Common.{sym, ◌∙◌}
use Rattle.rpki_time.proofs.OctetLaws.{slice-cmp-number}
use Rattle.rpki_time.proofs.serial.SerialOrd.cmp.Goals as goal

pub returns : goal.returns
returns c = rw (c.cmp.ensures, ← c.self.view_is, ← c.other.view_is)
    (slice-cmp-number _ _ (c.self.invariant.0 ∙ sym c.other.invariant.0) c.self.invariant.1 c.other.invariant.1).0
