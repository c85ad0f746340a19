use Rattle.rpki_locator.specs.Locator.{is_filled}
use Rattle.rpki_locator.proofs.LineLaws.{front-part, back-part}
use Rattle.rpki_locator.proofs.lines.sections_of.Goals as goal

pub returns-clause-sections : goal.returns-clause-sections
returns-clause-sections c = record {
  comments = c.count_comments-comments.ensures.count;
  uris = front-part (λ line. line.now) is_filled c.args.lines.now c.split_at.result.1.now
      c.count_comments-comments.result c.count_filled.result c.split_at.ensures.back c.count_filled.ensures.count
      c.split_at-2.result.0.now c.split_at-2.ensures.front;
  rest = back-part (λ line. line.now) is_filled c.args.lines.now c.split_at.result.1.now
      c.count_comments-comments.result c.count_filled.result c.split_at.ensures.back c.count_filled.ensures.count
      c.split_at-2.result.1.now c.split_at-2.ensures.back;
}
