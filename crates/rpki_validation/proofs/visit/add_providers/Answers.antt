use Rattle.std.proofs.Common.{◌∙◌, List, [], ◌∷◌, ap, refl, subst, sym}
use Rattle.rpki_x509.proofs.TriedLaws.{tried-fault}
use Rattle.rpki_cert.specs.Cert.{CertParts}
use Rattle.rpki_contents.specs.Aspa.{AspaParts}
use Rattle.rpki_objects.specs.SignedObject.{ObjectParts}
use Rattle.rpki_objects.specs.TypedObject.{TypedParts}
use Rattle.rpki_valid.specs.CrlIssued.{CountsAt}
use Rattle.rpki_validation.specs.declared.payload.Payload.{Payload}
use Rattle.rpki_validation.specs.Adding.{AddsProvidersHere}
use Rattle.rpki_validation.specs.Held.{IsSaidHere}
use Rattle.rpki_validation.specs.Holding.{IsPeriodUnder, SaysProvidersBy, in_period, values}
use Rattle.rpki_validation.specs.Noting.{AddsOnly}
use Rattle.rpki_validation.proofs.HeldLaws.{values-push}
use Rattle.rpki_validation.proofs.HereLaws.{no-providers, providers-found, tried-memory, where-always}
use Rattle.rpki_validation.proofs.NotingLaws.{adds-nothing, adds-one}
use Rattle.rpki_validation.proofs.visit.add_providers.Goals as goal

pub returns-in_err-value-clause-said : goal.returns-in_err-value-clause-said
returns-in_err-value-clause-said g c =
    let p = g.P.Provider in
    tried-memory _ _ _ c.from_residual.ensures
    (no-providers p c.args.list.now c.args.octets _ _
    (values c.args.providers.now.items) c.in_err-value.ensures)

pub returns-in_err-value-clause-held : goal.returns-in_err-value-clause-held
returns-in_err-value-clause-held g c = where-always _ _ (adds-nothing _ c.args.providers.now.items)

pub returns-in_err-value-clause-why : goal.returns-in_err-value-clause-why
returns-in_err-value-clause-why g c = tried-fault _ _ _ _ c.from_residual.ensures c.in_err-value.ensures

pub returns-clause-said : goal.returns-clause-said
returns-clause-said g c =
    let p = g.P.Provider in
    let old = c.args.providers.now.items in
    let value = c.in_ok-value.value in
    let found = providers-found p c.args.list.now c.args.octets value
    c.in_ok-value.ensures (values old) in
    subst
    (λ (l : List (TypedParts AspaParts)). AddsProvidersHere p c.args.list.now
    c.args.octets (values old) l)
    (sym (ap (λ (l : List (Payload (TypedParts AspaParts))). values l) c.in_ok-push.ensures.items
    ∙ values-push c.period_of-period.result old (value ∷ []))) found

pub returns-clause-held : goal.returns-clause-held
returns-clause-held g c =
    let p = g.P.Provider in
    let old = c.args.providers.now.items in
    let value = c.in_ok-value.value in
    let cert = c.cert.ensures ∙ ap (λ (x : ObjectParts). x.cert) c.object.ensures in
    let Said = IsSaidHere p c.args.list.now SaysProvidersBy c.args.octets in
    subst (λ (l : List (Payload (TypedParts AspaParts))). AddsOnly Said old l) (sym c.in_ok-push.ensures.items)
    (adds-one Said old (in_period c.period_of-period.result value) (
      value.object.cert,
      (c.in_ok-value.ensures.holds, refl),
      subst (λ (x : CertParts). IsPeriodUnder (CountsAt c.args.list.now) x c.period_of-period.result) cert
          c.period_of-period.ensures,
    ))

pub returns-clause-why : goal.returns-clause-why
returns-clause-why g c = (c.in_ok-value.value, c.in_ok-value.ensures.holds)
