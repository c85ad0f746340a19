use Rattle.std.proofs.Common.{◌≡◌, ◌*◌, map, take, length}
use Rattle.std.specs.Char.{to_ascii_uppercase}
use Rattle.rpki_der.specs.Number.{AreOctets}
use Rattle.rpki_text.specs.HexText.{hex_text}
use Rattle.rpki.proofs.crypto.keys.key_identifier.KeyIdentifierFromStr.from_str.Given as goal

abbrev pub invariant-loop-i : goal.invariant-loop-i
invariant-loop-i l = (map to_ascii_uppercase (take (2 * l.i) l.digits) ≡ hex_text (take l.i l.octets)) ×
    (length l.octets ≡ 20) × AreOctets l.octets
