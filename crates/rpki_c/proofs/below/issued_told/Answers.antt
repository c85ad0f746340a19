use Rattle.std.proofs.Common.{inl, inr}
use Rattle.rpki_c.proofs.below.issued_told.Goals as goal

pub returns-in-Ok : goal.returns-in-Ok
returns-in-Ok c = λ s t x y h k. inr (c.in-Ok.ensures s t x y h k, c.signed_at.ensures s t x y h k)

pub returns-in-Err : goal.returns-in-Err
returns-in-Err c = λ s t x y h k. inl (c.in-Err.ensures s t x y h k)
