use Rattle.std.proofs.Common.{◌≡◌, take, bytes_eq}
use Rattle.rpki_text.specs.UriText.{lowercase}
use Rattle.rpki_text.proofs.uri.characters.are_alike.Given as goal

abbrev pub invariant-loop-i : goal.invariant-loop-i
invariant-loop-i l = l.are ≡ bytes_eq (lowercase (take l.i l.s)) (lowercase (take l.i l.other))
