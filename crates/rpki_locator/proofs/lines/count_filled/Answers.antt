use Rattle.std.proofs.Common.{rules, tests, ◌≡◌, ◌∙◌, arith}
use Rattle.std.proofs.lemmas.Iterator.{YieldsList-from_slice}
use Rattle.std.proofs.lemmas.Iterator.Consumers.{count_from_yields_List, YieldsList-at}
use Rattle.std.proofs.lemmas.Iterator.Search.{YieldsList-from_take_while}
use Rattle.std.proofs.lemmas.List.Folds.{length-prefix_len}
use Rattle.std.proofs.lemmas.List.Sums.{prefix_len-le-length}
use Rattle.std.specs.List.{prefix_len}
use Rattle.rpki_locator.specs.Locator.{is_filled}
use Rattle.rpki_locator.proofs.LineLaws.{prefix_len-map}
use Rattle.rpki_locator.proofs.lines.count_filled.Goals as goal

passing : (c : goal.After-count) → c.count.result ≡ prefix_len (λ line. is_filled line.now) c.args.lines.now
passing c =
    count_from_yields_List _ _ c.count.ensures.ran
    (YieldsList-from_take_while _ (λ line. is_filled line.now)
    (YieldsList-at c.take_while.ensures.source (YieldsList-from_slice c.args.lines.now c.iter.ensures.rest))
    c.take_while.ensures.closure c.take_while.ensures.done (λ x b q h. search (rules, tests)))
    ∙ length-prefix_len (λ line. is_filled line.now) c.args.lines.now

pub returns-clause-count : goal.returns-clause-count
returns-clause-count c = passing c ∙ prefix_len-map (λ line. line.now) is_filled c.args.lines.now

pub returns-clause-most : goal.returns-clause-most
returns-clause-most c =
    omega (arith, passing c, prefix_len-le-length (λ line. is_filled line.now) c.args.lines.now)
