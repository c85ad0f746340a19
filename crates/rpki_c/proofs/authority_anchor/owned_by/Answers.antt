use Rattle.std.proofs.Common.{inl, inr}
use Rattle.rpki_c.proofs.authority_anchor.owned_by.Goals as goal

pub returns-in-Err-clause-err : goal.returns-in-Err-clause-err
returns-in-Err-clause-err c = λ s x h. inl (c.in-Err.ensures.err s x h)

pub returns-in-Err-anchored_numbers-clause-err : goal.returns-in-Err-anchored_numbers-clause-err
returns-in-Err-anchored_numbers-clause-err c = λ s x h.
    inr (c.in-Ok.addresses, c.in-Ok.ensures.ok s x h, c.in-Err-anchored_numbers.ensures.err s x h)
