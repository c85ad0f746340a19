use Rattle.std.proofs.Common.{inl, inr}
use Rattle.rpki_c.proofs.below.unrevoked_told.Goals as goal

pub returns-then-status-ne0 : goal.returns-then-status-ne0
returns-then-status-ne0 c = λ s t x y h k. inl (c.if-status-ne0.true, c.issued_told-status.ensures s t x y h k)

pub returns : goal.returns
returns c = λ s t x y h k.
    let issued = c.issued_told-status.ensures s t x y h k in
    inr (rw c.if-status-ne0.false at issued, rw h.tbs.serial at c.listed_told.ensures)
