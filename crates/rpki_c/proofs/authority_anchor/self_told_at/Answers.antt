use Rattle.std.proofs.Common.{inl, inr}
use Rattle.rpki_c.proofs.authority_anchor.self_told_at.Goals as goal

pub returns-then-status-ne0 : goal.returns-then-status-ne0
returns-then-status-ne0 c = λ s x h. inl (c.if-status-ne0.true, c.self_told-status.ensures s x h)

pub returns : goal.returns
returns c = λ s x h.
    let signed = c.self_told-status.ensures s x h in
    inr (rw c.if-status-ne0.false at signed, rw h.tbs.named.validity at c.told_of.ensures)
