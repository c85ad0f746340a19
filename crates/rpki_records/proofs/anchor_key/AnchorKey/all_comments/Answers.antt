use Rattle.rpki_records.specs.AnchorKeys.{given_comment_at}
use Rattle.rpki_records.proofs.FirstsLaws.{next_first}
use Rattle.rpki_records.proofs.anchor_key.AnchorKey.all_comments.Goals as goal

pub comments-preserved : goal.comments-preserved
comments-preserved c =
    next_first given_comment_at c.comments.number c.args.self.comments.now _ _ _ _ _ c.comments.invariant.0
    c.comments.invariant.1 c.next_comment.ensures.given c.in_ok-push_comment.ensures
