use Rattle.rpki_payloads.proofs.ConflictLaws.{finds-permuted, in-order}
use Rattle.rpki_payloads.proofs.conflict.number_in_both.Goals as goal

pub in_both-requires : goal.in_both-requires
in_both-requires c = rw c.as_slice-2.ensures.value (in-order _ c.sort_unstable.ensures.sorted)

pub returns : goal.returns
returns c =
    finds-permuted _ _ _ c.in_both.result (rw c.in_ok-others.ensures at c.sort_unstable.ensures.permutation)
    (rw (c.as_slice.ensures.value, c.in_ok-numbers.ensures, c.as_slice-2.ensures.value) at c.in_both.ensures)
