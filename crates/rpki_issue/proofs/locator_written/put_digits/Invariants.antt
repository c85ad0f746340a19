use Rattle.std.proofs.Common.{◌≡◌, ◌++◌}
use Rattle.std.specs.Slice.Iter.{chunks_rest, chunks_size}
use Rattle.rpki_issue.specs.Locators.{lines_octets, folded}
use Rattle.rpki_issue.proofs.locator_written.put_digits.Given as goal

-- the lines so far, and the rest
abbrev pub invariant-loop-line : goal.invariant-loop-line
invariant-loop-line l =
    goal.iterator-loop-line.can_next l.line-iterator
    × goal.iterator-loop-line.is_finite l.line-iterator
    × (chunks_size l.line-iterator ≡ 64)
    × (l.text.items ++ lines_octets (folded (chunks_rest l.line-iterator))
    ≡ l.initial.text.items ++ lines_octets (folded l.digits))
