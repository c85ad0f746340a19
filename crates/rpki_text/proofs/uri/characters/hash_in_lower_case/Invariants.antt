use Rattle.std.proofs.Common.{◌≡◌, take, fold, flat_map}
use Rattle.std.specs.Hash as fed
use Rattle.rpki_text.specs.UriText.{lowercase}
use Rattle.rpki_text.proofs.uri.characters.hash_in_lower_case.Given as goal

abbrev pub invariant-loop-b : goal.invariant-loop-b
invariant-loop-b g l =
    l.state ≡ fold g.H.Hasher.write l.initial.state (flat_map fed.u8 (lowercase (take l.b-index l.bytes)))
