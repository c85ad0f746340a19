use Rattle.std.proofs.Common.{◌≡◌, ◌≤◌, take, length}
use Rattle.rpki_base64.specs.Base64Text.{without_white_space}
use Rattle.rpki_c.proofs.base_64.store_short_xml.Given as goal

-- what was read of the text, without white space
abbrev pub invariant-loop-octet : goal.invariant-loop-octet
invariant-loop-octet l =
    (take l.count l.bare ≡ without_white_space (take l.octet-index l.text)) × (l.count ≤ l.octet-index)
    × (length l.bare ≡ 128)
