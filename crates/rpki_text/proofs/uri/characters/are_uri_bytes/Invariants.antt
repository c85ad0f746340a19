use Rattle.std.proofs.Common.{◌≡◌, take}
use Rattle.std.specs.List.{list_all}
use Rattle.rpki_text.specs.UriText.{is_uri_byte}
use Rattle.rpki_text.proofs.uri.characters.are_uri_bytes.Given as goal

abbrev pub invariant-loop-b : goal.invariant-loop-b
invariant-loop-b l = l.are ≡ list_all is_uri_byte (take l.b-index l.text)
