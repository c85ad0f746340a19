use Rattle.std.proofs.Common.{◌++◌, ◌∙◌, List, ap, map, refl, subst, sym}
use Rattle.rpki_x509.proofs.TriedLaws.{tried-fault}
use Rattle.rpki_cert.specs.Cert.{CertParts}
use Rattle.rpki_contents.specs.declared.route_origin.RouteOrigin.{RouteOrigin}
use Rattle.rpki_contents.specs.Roa.{AttestationParts}
use Rattle.rpki_contents.specs.RouteOrigin.{origins}
use Rattle.rpki_objects.specs.SignedObject.{ObjectParts}
use Rattle.rpki_time.specs.Validity.{Period}
use Rattle.rpki_valid.specs.CrlIssued.{CountsAt}
use Rattle.rpki_validation.specs.declared.payload.Payload.{Payload}
use Rattle.rpki_validation.specs.Adding.{AddsOriginsHere}
use Rattle.rpki_validation.specs.Held.{IsSaidHere}
use Rattle.rpki_validation.specs.Holding.{IsPeriodUnder, SaysOriginBy, in_period, values}
use Rattle.rpki_validation.specs.Noting.{AddsOnly}
use Rattle.rpki_validation.proofs.HeldLaws.{adds-mapped, values-push}
use Rattle.rpki_validation.proofs.HereLaws.{no-origins, origins-found, tried-memory, where-always}
use Rattle.rpki_validation.proofs.NotingLaws.{adds-nothing}
use Rattle.rpki_validation.proofs.visit.add_origins.Goals as goal

pub returns-in_err-roa-clause-said : goal.returns-in_err-roa-clause-said
returns-in_err-roa-clause-said g c =
    let p = g.P.Provider in
    tried-memory _ _ _ c.from_residual.ensures
    (no-origins p c.args.list.now c.args.octets _ _
    (values c.args.origins.now.items) c.in_err-roa.ensures)

pub returns-in_err-roa-clause-held : goal.returns-in_err-roa-clause-held
returns-in_err-roa-clause-held g c = where-always _ _ (adds-nothing _ c.args.origins.now.items)

pub returns-in_err-roa-clause-why : goal.returns-in_err-roa-clause-why
returns-in_err-roa-clause-why g c = tried-fault _ _ _ _ c.from_residual.ensures c.in_err-roa.ensures

pub returns-clause-said : goal.returns-clause-said
returns-clause-said g c =
    let p = g.P.Provider in
    let old = c.args.origins.now.items in
    let all = origins c.in_ok-roa.roa.content in
    let rest = c.origins.ensures ∙ ap (λ (x : AttestationParts). origins x) c.content.ensures in
    let new = c.in_ok-push_origins.ensures
    ∙ ap (λ (l : List RouteOrigin). old ++ map (in_period c.period_of-period.result) l) rest in
    let found = origins-found p c.args.list.now c.args.octets c.in_ok-roa.roa
    c.in_ok-roa.ensures (values old) in
    subst
    (λ (l : List RouteOrigin). AddsOriginsHere p c.args.list.now c.args.octets
    (values old) l)
    (sym (ap (λ (l : List (Payload RouteOrigin)). values l) new
    ∙ values-push c.period_of-period.result old all)) found

pub returns-clause-held : goal.returns-clause-held
returns-clause-held g c =
    let p = g.P.Provider in
    let old = c.args.origins.now.items in
    let rest = c.origins.ensures ∙ ap (λ (x : AttestationParts). origins x) c.content.ensures in
    let new = c.in_ok-push_origins.ensures
    ∙ ap (λ (l : List RouteOrigin). old ++ map (in_period c.period_of-period.result) l) rest in
    let cert = c.cert.ensures ∙ ap (λ (x : ObjectParts). x.cert) c.object.ensures in
    let period = subst (λ (x : CertParts). IsPeriodUnder (CountsAt c.args.list.now) x c.period_of-period.result) cert
    c.period_of-period.ensures in
    let Said = IsSaidHere p c.args.list.now SaysOriginBy c.args.octets in
    subst (λ (l : List (Payload RouteOrigin)). AddsOnly Said old l) (sym new)
    (adds-mapped c.period_of-period.result Said old (origins c.in_ok-roa.roa.content)
    (λ v in_all e. (
      c.in_ok-roa.roa.object.cert,
      (c.in_ok-roa.roa, c.in_ok-roa.ensures.holds, in_all, refl),
      subst (λ (q : Period). IsPeriodUnder (CountsAt c.args.list.now) c.in_ok-roa.roa.object.cert q) (sym e) period,
    )))

pub returns-clause-why : goal.returns-clause-why
returns-clause-why g c = (c.in_ok-roa.roa, c.in_ok-roa.ensures.holds)

pub returns-in_err-push_origins-clause-said : goal.returns-in_err-push_origins-clause-said
returns-in_err-push_origins-clause-said g c = tried-memory _ _ _ c.from_residual-in_err-push_origins.ensures tt

pub returns-in_err-push_origins-clause-held : goal.returns-in_err-push_origins-clause-held
returns-in_err-push_origins-clause-held g c = tried-memory _ _ _ c.from_residual-in_err-push_origins.ensures tt

pub returns-in_err-push_origins-clause-why : goal.returns-in_err-push_origins-clause-why
returns-in_err-push_origins-clause-why g c = tried-fault _ _ _ _ c.from_residual-in_err-push_origins.ensures tt
