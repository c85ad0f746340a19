use Rattle.std.proofs.Common.{inl, inr, refl, sym, subst}
use Rattle.rpki_resources.specs.declared.choice_view.ChoiceView.{ChoiceView}
use Rattle.rpki_resources.specs.Kept.{IsChoiceOf}
use Rattle.rpki_cert.specs.ResourceExtensions.{numbers_of}
use Rattle.rpki_c.proofs.CertificateLaws.{listed}
use Rattle.rpki_c.proofs.ResourceLaws.{numbers-kept, numbers-fit}
use Rattle.rpki_c.proofs.certificate_resources.rpki_as_settle.Goals as goal

pub settle_numbers-requires : goal.settle_numbers-requires
settle_numbers-requires c = λ v k.
    let (x, cert, has) = c.in-Ok.ensures.ok in
    let all = listed cert in
    numbers-fit (numbers_of x.tbs.extensions) c.in-Ok-as_resources.said
    (c.in-Ok-as_resources.ensures x.tbs.extensions all).0 v (subst (IsChoiceOf v) c.claimed_numbers.ensures k)

pub returns-in-Ok-as_resources : goal.returns-in-Ok-as_resources
returns-in-Ok-as_resources c =
    let (x, cert, has) = c.in-Ok.ensures.ok in
    let all = listed cert in
    let says = (c.in-Ok-as_resources.ensures x.tbs.extensions all).0 in
    let (v, k) = numbers-kept (numbers_of x.tbs.extensions) c.in-Ok-as_resources.said says in
    let settled = c.settle_numbers.ensures v
    (subst (λ (w : ChoiceView). IsChoiceOf v w) (sym c.claimed_numbers.ensures) k) in
    inr (inr (
      x,
      c.in-Ok.read.1,
      has,
      inr (v, record { said = c.in-Ok-as_resources.said; says = says; claimed = k }, settled),
    ))

pub returns-in-Err-as_resources : goal.returns-in-Err-as_resources
returns-in-Err-as_resources c =
    let (x, cert, has) = c.in-Ok.ensures.ok in
    let all = listed cert in
    let none = (c.in-Err-as_resources.ensures x.tbs.extensions all).0 in
    inr (inr (x, c.in-Ok.read.1, has, inl (refl, none, record { array = refl; size = refl })))
