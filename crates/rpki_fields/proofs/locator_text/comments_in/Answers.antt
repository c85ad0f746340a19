use Rattle.std.proofs.Common.{rules, tests}
use Rattle.std.proofs.lemmas.Iterator.{YieldsList-from_map_by}
use Rattle.std.proofs.lemmas.Iterator.Consumers.{map_from_collect, YieldsList-at}
use Rattle.std.proofs.lemmas.Iterator.Search.{YieldsList-from_take_while}
use Rattle.std.proofs.lemmas.Iterator.Splits.{YieldsList-from_slice_split}
use Rattle.rpki_locator.specs.Locator.{ends_line, is_comment, without_return}
use Rattle.rpki_fields.proofs.locator_text.comments_in.Goals as goal

pub returns : goal.returns
returns c =
    map_from_collect c.collect.result c.collect.ensures.ran
    (YieldsList-from_take_while _ is_comment
    (YieldsList-at c.take_while.ensures.source
    (YieldsList-from_map_by _ (λ r. r.now) without_return
    (YieldsList-at c.map.ensures.source
    (YieldsList-from_slice_split _ ends_line c.args.text.now c.split.ensures.rest c.split.ensures.done
    c.split.ensures.closure (λ x b q h. search (rules, tests))))
    c.map.ensures.closure (λ x r q h. search (rules, tests))))
    c.take_while.ensures.closure c.take_while.ensures.done (λ x b q h. search (rules, tests)))
