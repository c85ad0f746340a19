use Rattle.rpki_der.proofs.FormatLaws.{tried, given, first, last, after, all, and}
use Rattle.rpki_examples.specs.NumberList.{parts, parts_of}
use Rattle.rpki_examples.proofs.number_list.fn.NumberList.take_from.in_sequence.Goals as goal

pub returns-in_err-version : goal.returns-in_err-version
returns-in_err-version c = tried parts_of parts _ _ c.from_residual.ensures (first c.in_err-version.ensures)

pub returns-in_err-purpose : goal.returns-in_err-purpose
returns-in_err-purpose c =
    tried parts_of parts _ _ c.from_residual-in_err-purpose.ensures
    (after c.in_ok-version.ensures (first c.in_err-purpose.ensures))

pub returns-in_err-numbers : goal.returns-in_err-numbers
returns-in_err-numbers c =
    tried parts_of parts _ _ c.from_residual-in_err-numbers.ensures
    (after c.in_ok-version.ensures (after c.in_ok-purpose.ensures (last c.in_err-numbers.ensures)))

pub returns : goal.returns
returns c = given (and c.in_ok-version.ensures (and c.in_ok-purpose.ensures (all c.in_ok-numbers.ensures)))
