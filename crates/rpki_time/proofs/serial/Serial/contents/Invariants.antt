use Rattle.std.proofs.Common.{◌≡◌, ◌-◌, ◌<◌, ◌≤◌, get_or, drop}
use Rattle.rpki_der.specs.Number.{number_of}
use Rattle.rpki_time.proofs.serial.Serial.contents.Given as goal

-- the rest still writes the number, and its first bit is 0
abbrev pub invariant-loop-start : goal.invariant-loop-start
invariant-loop-start l =
    (l.start ≤ 19) × (number_of (drop l.start l.self-inside.octets) ≡ number_of l.self-inside.octets)
    × (get_or l.self-inside.octets l.start 0 < 128)

abbrev pub decreases-loop-start : goal.decreases-loop-start
decreases-loop-start l = 19 - l.start
