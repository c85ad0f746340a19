use Rattle.std.proofs.Common.{inl, inr}
use Rattle.rpki_c.proofs.authority_making.owned_under.Goals as goal

pub returns-in-Err-clause-err : goal.returns-in-Err-clause-err
returns-in-Err-clause-err c = λ s x h. inl (c.in-Err.ensures s x h)

pub returns-in-Err-numbers_under-clause-err : goal.returns-in-Err-numbers_under-clause-err
returns-in-Err-numbers_under-clause-err c = λ s x h.
    inr (c.in-Ok.addresses, c.in-Ok.ensures s x h, c.in-Err-numbers_under.ensures.gives s x h)
