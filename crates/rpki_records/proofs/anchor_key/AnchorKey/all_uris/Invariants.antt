use Rattle.std.proofs.Common.{◌≡◌}
use Rattle.rpki_der.specs.Cursor.{left}
use Rattle.rpki_records.specs.AnchorKeys.{given_uri_at}
use Rattle.rpki_records.specs.Words.{firsts}
use Rattle.rpki_records.proofs.FirstsLaws.{rest_after}
use Rattle.rpki_records.proofs.anchor_key.AnchorKey.all_uris.Given as goal

-- those so far, and what follows them
abbrev pub invariant-uris : goal.invariant-uris
invariant-uris l =
    (l.uris.items ≡ firsts given_uri_at l.number l.self.uris.now)
    × (left l.cursor.rest ≡ rest_after given_uri_at l.number l.self.uris.now)
