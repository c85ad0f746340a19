use Rattle.rpki_contents.proofs.WithinLaws.{same-subset}
use Rattle.rpki_contents.proofs.coverage.are_among.Goals as goal

pub returns-clause-answer : goal.returns-clause-answer
returns-clause-answer c =
    let numbers = rw (c.as_slice.ensures.value, c.in_ok-blocks.ensures.blocks) at c.in_ok-numbers.ensures.numbers in
    same-subset _ _ c.args.resources.now c.encompasses.result numbers c.encompasses.ensures
