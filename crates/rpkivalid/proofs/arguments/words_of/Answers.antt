use Rattle.std.proofs.Common.{sym, ◌∙◌, refl}
use Rattle.std.specs.Prelude.{Ok}
use Rattle.std.proofs.lemmas.Iterator.{items_from_collect}
use Rattle.std.proofs.lemmas.Iterator.Adapters.{YieldsList-from_vec}
use Rattle.rpkivalid.proofs.ArgumentLaws.{drop-next}
use Rattle.rpkivalid.proofs.arguments.words_of.Goals as goal

pub returns-in-Ok-collect-clause-words : goal.returns-in-Ok-collect-clause-words
returns-in-Ok-collect-clause-words c =
    let left = c.next-name.new.self in
    let all = c.in-Ok.arguments in
    let rest = items_from_collect {E = Unit {0}} (Ok c.in-Ok-collect.words) c.in-Ok-collect.ensures.ran
    (YieldsList-from_vec _ refl left.rest.ok.0) in
    rw c.in-Ok.is
    (rest ∙ sym (drop-next _ _ c.next-name.result _ all.rest.ok.0 c.next-name.ensures.items
    c.next-name.ensures.variant))
