use Rattle.std.proofs.Common.{◌≡◌, map, take}
use Rattle.rpki_locator.specs.Locator.{key_digits}
use Rattle.rpki_locator.proofs.locator.digits_of.Given as goal

-- the digits of the lines so far
abbrev pub invariant-lines : goal.invariant-lines
invariant-lines l = l.digits.items ≡ key_digits (map (λ line. line.now) (take l.line-index l.lines))
