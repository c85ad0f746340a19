use Rattle.std.proofs.Common.{◌<◌, ◌⊎◌, inl, inr, arith, length, get_or}
use Rattle.rpki_der.proofs.IntegerLaws.{octets-fit}
use Rattle.rpki_time.proofs.OctetLaws.{padded-AreTwenty, number-padded}
use Rattle.rpki_time.proofs.serial.Serial.from_slice.Goals as goal
use Rattle.rpki_time.proofs.serial.Serial.from_slice.Goals.{else-octets-eq20-via-then-octets-eq20+else-octets-ge128}
use Rattle.rpki_time.proofs.serial.Serial.from_slice.Goals.{else-octets-eq20-via-else-octets-eq20}

pub invariant_of-result : goal.invariant_of-result
invariant_of-result c =
    let first : (length c.args.octets.now < 20) ⊎ (get_or c.args.octets.now 0 0 < 128) =
    elim c.else-octets-eq20.branch [
      | else-octets-eq20-via-then-octets-eq20+else-octets-ge128 w ↦ inr w.if-octets-ge128.false
      | else-octets-eq20-via-else-octets-eq20 w ↦ inl (omega arith)
    ] in
    padded-AreTwenty _ _ c.copy_from_slice.ensures.after (omega arith) (octets-fit _ c.type_inv.octets) first

pub returns-clause-value : goal.returns-clause-value
returns-clause-value c = number-padded _ _ c.copy_from_slice.ensures.after (omega arith)
