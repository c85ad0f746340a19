use Rattle.std.proofs.Common.{sym, ◌∙◌}
use Rattle.rpkivalid.proofs.MomentLaws.{now-named, now-unnamed, text-named, text-unnamed}
use Rattle.rpkivalid.proofs.moment.word_moment.Goals as goal

pub returns-then-is_now-clause-some : goal.returns-then-is_now-clause-some
returns-then-is_now-clause-some g c =
    now-named _ _ c.args.word.now (sym c.is_now.ensures ∙ c.if-is_now.true) c.now.ensures

pub returns-then-is_now-clause-none : goal.returns-then-is_now-clause-none
returns-then-is_now-clause-none g c =
    now-unnamed _ _ c.args.word.now (sym c.is_now.ensures ∙ c.if-is_now.true) c.now.ensures

pub returns-clause-some : goal.returns-clause-some
returns-clause-some g c =
    text-named _ _ c.args.word.now (sym c.is_now.ensures ∙ c.if-is_now.false) c.named_moment.ensures.some

pub returns-clause-none : goal.returns-clause-none
returns-clause-none g c =
    text-unnamed _ _ c.args.word.now (sym c.is_now.ensures ∙ c.if-is_now.false) c.named_moment.ensures.none
