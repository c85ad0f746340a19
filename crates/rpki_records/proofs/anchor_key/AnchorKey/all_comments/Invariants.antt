use Rattle.std.proofs.Common.{◌≡◌}
use Rattle.rpki_der.specs.Cursor.{left}
use Rattle.rpki_records.specs.AnchorKeys.{given_comment_at}
use Rattle.rpki_records.specs.Words.{firsts}
use Rattle.rpki_records.proofs.FirstsLaws.{rest_after}
use Rattle.rpki_records.proofs.anchor_key.AnchorKey.all_comments.Given as goal

-- those so far, and what follows them
abbrev pub invariant-comments : goal.invariant-comments
invariant-comments l =
    (l.comments.items ≡ firsts given_comment_at l.number l.self.comments.now)
    × (left l.cursor.rest ≡ rest_after given_comment_at l.number l.self.comments.now)
