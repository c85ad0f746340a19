use Rattle.std.proofs.Common.{inl, inr, refl, sym, subst}
use Rattle.rpki_resources.specs.Kept.{IsChoiceOf}
use Rattle.rpki_cert.specs.ResourceExtensions.{numbers_of}
use Rattle.rpki_c.proofs.CertificateLaws.{listed}
use Rattle.rpki_c.proofs.ResourceLaws.{numbers-kept, numbers-fit}
use Rattle.rpki_c.proofs.owned.numbers_under.Goals as goal

pub own_numbers-requires : goal.own_numbers-requires
own_numbers-requires c = λ v k.
    let (s, x, h) = c.requires in
    let says = (c.in-Ok.ensures x.tbs.extensions (listed h)).0 in
    numbers-fit (numbers_of x.tbs.extensions) c.in-Ok.said says v (subst (IsChoiceOf v) c.claimed_numbers.ensures k)

pub returns-in-Ok-own_numbers-clause-gives : goal.returns-in-Ok-own_numbers-clause-gives
returns-in-Ok-own_numbers-clause-gives c = λ s x h.
    let says = (c.in-Ok.ensures x.tbs.extensions (listed h)).0 in
    let (v, k) = numbers-kept (numbers_of x.tbs.extensions) c.in-Ok.said says in
    record {
      policy = c.in-Some.policy;
      by = c.in-Some.is;
      claim = v;
      claimed = record { said = c.in-Ok.said; says = says; claimed = k };
      owned = c.in-Ok-own_numbers.ensures.ok v (subst (IsChoiceOf v) (sym c.claimed_numbers.ensures) k);
    }

pub returns-in-Err-own_numbers-clause-gives : goal.returns-in-Err-own_numbers-clause-gives
returns-in-Err-own_numbers-clause-gives c = λ s x h.
    let says = (c.in-Ok.ensures x.tbs.extensions (listed h)).0 in
    let (v, k) = numbers-kept (numbers_of x.tbs.extensions) c.in-Ok.said says in
    let wrong = c.in-Err-own_numbers.ensures.err v (subst (IsChoiceOf v) (sym c.claimed_numbers.ensures) k) in
    inr (inr (inr (
      c.in-Some.policy,
      v,
      c.in-Some.is,
      record { said = c.in-Ok.said; says = says; claimed = k },
      wrong,
    )))

pub returns-in-Err-clause-gives : goal.returns-in-Err-clause-gives
returns-in-Err-clause-gives c = λ s x h. inr (inr (inl ((c.in-Err.ensures x.tbs.extensions (listed h)).0, refl)))
