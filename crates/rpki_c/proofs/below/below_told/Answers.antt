use Rattle.std.proofs.Common.{inl, inr, refl}
use Rattle.std.proofs.lemmas.Bool.{false≢true}
use Rattle.rpki_c.proofs.below.below_told.Goals as goal

pub returns-in-Err : goal.returns-in-Err
returns-in-Err c = λ s x h. let q = c.in-Err.field-0 in inl (refl, q.part, (q.error, c.in-Err.ensures.err))

pub returns-in-Some : goal.returns-in-Some
returns-in-Some c = λ s x h.
    let (y, k) = c.in-Ok.ensures.ok in
    inr (y, k.spelled, inr (c.in-Some.time, c.in-Some.ensures.value, c.unrevoked_told.ensures s _ x y h k))

pub returns-in-None : goal.returns-in-None
returns-in-None c = λ s x h.
    let (y, k) = c.in-Ok.ensures.ok in
    inr (y, k.spelled, inl (refl, λ is. false≢true (c.in-None.ensures.succeeds.1 is)))
