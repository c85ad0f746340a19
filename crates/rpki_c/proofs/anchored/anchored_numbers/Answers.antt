use Rattle.std.proofs.Common.{inl, inr, refl, sym, subst}
use Rattle.rpki_resources.specs.Kept.{IsChoiceOf}
use Rattle.rpki_cert.specs.ResourceExtensions.{numbers_of}
use Rattle.rpki_c.proofs.CertificateLaws.{listed}
use Rattle.rpki_c.proofs.ResourceLaws.{numbers-kept, numbers-fit, anchored-fits}
use Rattle.rpki_c.proofs.anchored.anchored_numbers.Goals as goal

pub returns-in-Ok-anchored-clause-ok : goal.returns-in-Ok-anchored-clause-ok
returns-in-Ok-anchored-clause-ok c = λ s x h.
    let says = (c.in-Ok.ensures x.tbs.extensions (listed h)).0 in
    let (v, k) = numbers-kept (numbers_of x.tbs.extensions) c.in-Ok.said says in
    record {
      claim = v;
      claimed = record { said = c.in-Ok.said; says = says; claimed = k };
      anchored = c.in-Ok-anchored.ensures.ok v (subst (IsChoiceOf v) (sym c.claimed_numbers.ensures) k);
    }

pub returns-in-Ok-anchored-clause-fit : goal.returns-in-Ok-anchored-clause-fit
returns-in-Ok-anchored-clause-fit c =
    let (s, x, h) = c.requires in
    let says = (c.in-Ok.ensures x.tbs.extensions (listed h)).0 in
    let (v, k) = numbers-kept (numbers_of x.tbs.extensions) c.in-Ok.said says in
    anchored-fits v c.in-Ok-anchored.own (numbers-fit (numbers_of x.tbs.extensions) c.in-Ok.said says v k)
    (c.in-Ok-anchored.ensures.ok v (subst (IsChoiceOf v) (sym c.claimed_numbers.ensures) k))

pub returns-in-Err-anchored-clause-err : goal.returns-in-Err-anchored-clause-err
returns-in-Err-anchored-clause-err c = λ s x h.
    let says = (c.in-Ok.ensures x.tbs.extensions (listed h)).0 in
    let (v, k) = numbers-kept (numbers_of x.tbs.extensions) c.in-Ok.said says in
    inr (
      v,
      record { said = c.in-Ok.said; says = says; claimed = k },
      c.in-Err-anchored.ensures.err v (subst (IsChoiceOf v) (sym c.claimed_numbers.ensures) k),
    )

pub returns-in-Err-clause-err : goal.returns-in-Err-clause-err
returns-in-Err-clause-err c = λ s x h. inl ((c.in-Err.ensures x.tbs.extensions (listed h)).0, refl)
