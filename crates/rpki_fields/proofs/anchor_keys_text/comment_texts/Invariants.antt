use Rattle.std.proofs.Common.{◌≡◌, map, take}
use Rattle.rpki_fields.proofs.anchor_keys_text.comment_texts.Given as goal

abbrev pub invariant-comments : goal.invariant-comments
invariant-comments l = map (λ text. text.now) l.all.items ≡ take l.comment-index l.comments
