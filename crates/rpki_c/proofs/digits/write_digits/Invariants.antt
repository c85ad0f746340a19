use Rattle.std.proofs.Common.{◌≡◌, ◌*◌, ◌++◌, take, drop}
use Rattle.rpki_text.specs.HexText.{hex_text}
use Rattle.rpki_c.proofs.digits.write_digits.Given as goal

abbrev pub invariant-loop-i : goal.invariant-loop-i
invariant-loop-i l = l.out ≡ hex_text (take l.i l.octets) ++ drop (2 * l.i) l.initial.out
