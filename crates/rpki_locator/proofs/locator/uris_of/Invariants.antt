use Rattle.std.proofs.Common.{map}
use Rattle.rpki_locator.specs.Locator.{uri_text}
use Rattle.rpki_locator.proofs.LineLaws.{AreRead}
use Rattle.rpki_locator.proofs.locator.uris_of.Given as goal

-- the lines so far are URIs, and these are they
abbrev pub invariant-lines : goal.invariant-lines
invariant-lines l = AreRead (map (λ line. line.now) l.lines) l.at (map uri_text l.uris.items)
