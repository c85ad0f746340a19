use Rattle.std.proofs.lemmas.List.{take-append-drop}
use Rattle.rpki_resources.specs.Blocks.{AreUnited, AreNumbersOf}
use Rattle.rpki_resources.proofs.SetLaws.{together, if-ok}
use Rattle.rpki_resources.proofs.set.+numbers_of.Goals as goal

pub returns-in_ok-second-in_default-clause-numbers : goal.returns-in_ok-second-in_default-clause-numbers
returns-in_ok-second-in_default-clause-numbers t c =
    let first = c.in_ok-first-in_default.first.items in
    let second = c.in_ok-second-in_default.second.items in
    if-ok (λ v. AreUnited first second v.items) (λ v. AreNumbersOf c.args.blocks.now v.items) c.united.result
    (λ v h. together c.args.blocks.now _ _ first second v.items
    (rw (c.split_at.ensures.front, c.split_at.ensures.back) (take-append-drop _ c.args.blocks.now))
    c.in_ok-first-in_default.ensures.numbers c.in_ok-second-in_default.ensures.numbers h)
    (rw (c.as_slice.ensures.value, c.as_slice-in_default.ensures.value) at c.united.ensures.united)
