use Rattle.std.proofs.Common.{◌≡◌, ◌*◌, ◌++◌, take, drop}
use Rattle.rpki_text.specs.HexText.{hex_text}
use Rattle.rpki_text.proofs.util.hex.written.Given as goal

abbrev pub invariant-loop-i : goal.invariant-loop-i
invariant-loop-i l = l.dest ≡ hex_text (take l.i l.src) ++ drop (2 * l.i) l.initial.dest
