use Rattle.std.proofs.Common.{sym, ◌∙◌}
use Rattle.rpkicert.proofs.SettledLaws.{now-some, now-none, text-some, text-none}
use Rattle.rpkicert.proofs.moment.moment_at.Goals as goal

pub returns-then-is_now-clause-some : goal.returns-then-is_now-clause-some
returns-then-is_now-clause-some g c =
    now-some _ _ c.args.word.now (sym c.is_now.ensures ∙ c.if-is_now.true) c.now.ensures

pub returns-then-is_now-clause-none : goal.returns-then-is_now-clause-none
returns-then-is_now-clause-none g c =
    now-none _ _ c.args.word.now (sym c.is_now.ensures ∙ c.if-is_now.true) c.now.ensures

pub returns-clause-some : goal.returns-clause-some
returns-clause-some g c =
    text-some _ _ c.args.word.now (sym c.is_now.ensures ∙ c.if-is_now.false) c.moment_of.ensures.some

pub returns-clause-none : goal.returns-clause-none
returns-clause-none g c =
    text-none _ _ c.args.word.now (sym c.is_now.ensures ∙ c.if-is_now.false) c.moment_of.ensures.none
