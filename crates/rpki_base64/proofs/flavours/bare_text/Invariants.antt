use Rattle.std.proofs.Common.{◌≡◌, ◌++◌, length}
use Rattle.rpki_base64.specs.Base64Text.{without_white_space}
use Rattle.rpki_base64.proofs.flavours.bare_text.Given as goal

abbrev pub invariant-lines : goal.invariant-lines
invariant-lines l = l.bare.items ++ without_white_space l.rest ≡ without_white_space l.text

abbrev pub decreases-lines : goal.decreases-lines
decreases-lines l = length l.rest
