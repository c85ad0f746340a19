use Rattle.std.proofs.Common.{inl, inr}
use Rattle.rpki_c.proofs.BelowLaws.{below-of}
use Rattle.rpki_c.proofs.below.below.Goals as goal

pub returns-in-Err : goal.returns-in-Err
returns-in-Err c = λ s x h. inl (c.in-Err.ensures.err s x h)

pub returns-then-status-ne0 : goal.returns-then-status-ne0
returns-then-status-ne0 c = λ s x h.
    let (says, has) = c.in-Ok.ensures.ok s x h in
    inr (c.in-Ok.known, says, has, c.if-status-ne0.true, c.below_told-status.ensures s x h)

pub returns : goal.returns
returns c = λ s x h.
    let (says, has) = c.in-Ok.ensures.ok s x h in
    let told = c.below_told-status.ensures s x h in
    (says, below-of c.args.profile c.args.by.now x c.in-Ok.known says has (rw c.if-status-ne0.false at told))
