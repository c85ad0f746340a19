use Rattle.std.proofs.Common.{◌≡◌, ◌≤◌, ◌+◌, ◌-◌, length, drop}
use Rattle.std.specs.List.{prefix_len}
use Rattle.rpki_base64.specs.Base64Text.{is_no_white_space}
use Rattle.rpki_base64.proofs.flavours.line_len.Given as goal

abbrev pub invariant-octets : goal.invariant-octets
invariant-octets l =
    (l.len ≤ length l.text)
    × (l.len + prefix_len is_no_white_space (drop l.len l.text) ≡ prefix_len is_no_white_space l.text)

abbrev pub decreases-octets : goal.decreases-octets
decreases-octets l = length l.text - l.len
