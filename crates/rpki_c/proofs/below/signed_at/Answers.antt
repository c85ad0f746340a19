use Rattle.std.proofs.Common.{inl, inr}
use Rattle.rpki_c.proofs.below.signed_at.Goals as goal

pub returns-then-status-ne0 : goal.returns-then-status-ne0
returns-then-status-ne0 c = λ s t x y h k. inl (c.if-status-ne0.true, c.signed_told-status.ensures s t x y h k)

pub returns : goal.returns
returns c = λ s t x y h k.
    let signed = c.signed_told-status.ensures s t x y h k in
    inr (rw c.if-status-ne0.false at signed, rw h.tbs.named.validity at c.told_of.ensures)
