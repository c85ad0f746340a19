use Rattle.std.proofs.Common.{inl, inr, refl}
use Rattle.std.proofs.lemmas.Bool.{iff_false, false≢true}
use Rattle.rpki_c.proofs.authority_anchor.root_told.Goals as goal

pub returns-then-not-has_key : goal.returns-then-not-has_key
returns-then-not-has_key c = λ s x h. inl (refl, iff_false (c.has_key.ensures s x h) c.if-not-has_key.true)

pub returns-in-Some : goal.returns-in-Some
returns-in-Some c = λ s x h.
    let same = (c.has_key.ensures s x h).0 c.if-not-has_key.false in
    inr (same, inr (c.in-Some.time, c.in-Some.ensures.value, c.self_told_at.ensures s x h))

pub returns-in-None : goal.returns-in-None
returns-in-None c = λ s x h.
    let same = (c.has_key.ensures s x h).0 c.if-not-has_key.false in
    inr (same, inl (refl, λ is. false≢true (c.in-None.ensures.succeeds.1 is)))
