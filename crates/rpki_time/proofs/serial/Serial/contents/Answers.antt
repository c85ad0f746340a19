use Rattle.std.proofs.Common.{inl, inr, arith, ◌<◌, ◌≤◌, ◌⊎◌, ◌+◌, ◌^◌, get_or}
use Rattle.rpki_der.proofs.IntegerLaws.{contents-unique}
use Rattle.rpki_time.proofs.SerialLaws.{kept-IsUnsigned, twenty-below}
use Rattle.rpki_time.proofs.WritingLaws.{serial_contents-are}
use Rattle.rpki_time.proofs.serial.Serial.contents.Goals as goal
use Rattle.rpki_time.proofs.serial.Serial.contents.Goals.{}
use Rattle.rpki_time.proofs.serial.Serial.contents.Goals.{then-loop-start-test+then-self-start-eq0+else-self-start-lt128}
use Rattle.rpki_time.proofs.serial.Serial.contents.Goals.{then-loop-start-test+else-self-start-eq0}
use Rattle.rpki_time.proofs.serial.Serial.contents.Goals.{else-loop-start-test}

pub returns-clause-contents : goal.returns-clause-contents
returns-clause-contents c =
    let more : c.loop-start.start < 19
    → (0 < get_or c.self.inside.octets c.loop-start.start 0) ⊎
    (128 ≤ get_or c.self.inside.octets (c.loop-start.start + 1) 0) = λ short. elim c.loop-start-test.branch [
      | then-loop-start-test+then-self-start-eq0+else-self-start-lt128 w ↦ inr w.if-self-start-lt128.false
      | then-loop-start-test+else-self-start-eq0 w ↦ inl (omega (arith, w.if-self-start-eq0.false))
      | else-loop-start-test w ↦ absurd (omega (arith, w.loop-start-test.false))
    ] in
    let kept = kept-IsUnsigned _ _ c.self.inside.octets c.self.invariant.0 c.self.invariant.1 c.self.view_is
    c.loop-start.invariant.0 c.loop-start.invariant.1 c.loop-start.invariant.2 more in
    let below : c.args.self.now < 2 ^ 159 = rw (← c.self.view_is)
    (twenty-below c.self.inside.octets c.self.invariant.0 c.self.invariant.1 c.self.invariant.2) in
    contents-unique _ _ _ kept (serial_contents-are _ below)
