use Rattle.rpki_x509.proofs.TriedLaws.{tried-fault}
use Rattle.std.proofs.Common.{◌∙◌, ◌++◌, List, [], ◌∷◌, ap, arith, refl, subst, sym}
use Rattle.std.proofs.lemmas.List.Elements.{Contains-push_cases}
use Rattle.rpki_cert.specs.Cert.{CertParts}
use Rattle.rpki_valid.specs.CrlIssued.{CountsAt}
use Rattle.rpki_valid.specs.Verified.{Authority, Holder}
use Rattle.rpki_validation.specs.declared.payload.Payload.{Payload}
use Rattle.rpki_validation.specs.Adding.{AddsAuthoritiesHere, AddsRoutersHere}
use Rattle.rpki_validation.specs.Basis.{holders}
use Rattle.rpki_validation.specs.Sisters.{AreSistersBelow}
use Rattle.rpki_validation.specs.Held.{IsSaidHere}
use Rattle.rpki_validation.specs.Holding.{IsPeriodUnder, SaysRouterBy, in_period, values}
use Rattle.rpki_validation.specs.Noting.{AddsOnly}
use Rattle.rpki_validation.specs.Rejecting.{IsChildHere}
use Rattle.rpki_validation.proofs.HeldLaws.{values-push}
use Rattle.rpki_validation.proofs.HereLaws.{router-said, where-always}
use Rattle.rpki_validation.proofs.NotingLaws.{adds-nothing, adds-one}
use Rattle.rpki_validation.proofs.AddingLaws.{holders-push, sisters-one}
use Rattle.rpki_validation.proofs.HereLaws.{authority-counts, authority-said, may-issue, no-authority, no-router}
use Rattle.rpki_validation.proofs.HereLaws.{router-counts, unread-cert, wrong-constraints}
use Rattle.rpki_validation.proofs.HereLaws.{below-found, memory-here, no-below, no-routers, other-below, other-routers}
use Rattle.rpki_validation.proofs.HereLaws.{routers-found, told-authority, told-router, tried-memory, unread-below}
use Rattle.rpki_validation.proofs.HereLaws.{unread-routers}
use Rattle.rpki_validation.proofs.visit.add_cert.Goals as goal

pub returns-in_err-cert-clause-routers : goal.returns-in_err-cert-clause-routers
returns-in_err-cert-clause-routers g c =
    let p = g.P.Provider in
    tried-memory _ _ _ c.from_residual.ensures
    (unread-routers p c.args.list.now c.args.octets _ _
    (values c.args.routers.now.items) c.in_err-cert.ensures)

pub returns-in_err-cert-clause-below : goal.returns-in_err-cert-clause-below
returns-in_err-cert-clause-below g c =
    let p = g.P.Provider in
    tried-memory _ _ _ c.from_residual.ensures
    (unread-below p c.args.list.now c.args.octets _ _
    (holders c.args.below.now.items) c.in_err-cert.ensures)

pub returns-in_err-is_authority-clause-routers : goal.returns-in_err-is_authority-clause-routers
returns-in_err-is_authority-clause-routers g c =
    let p = g.P.Provider in
    tried-memory _ _ _ c.from_residual-in_err-is_authority.ensures
    (memory-here _ _ (other-routers p c.args.list.now c.args.octets
    c.in_ok-cert.cert c.in_ok-cert.ensures (λ strict. (c.in_err-is_authority.ensures.err strict).0)
    (values c.args.routers.now.items)))

pub returns-in_err-is_authority-clause-below : goal.returns-in_err-is_authority-clause-below
returns-in_err-is_authority-clause-below g c =
    let p = g.P.Provider in
    tried-memory _ _ _ c.from_residual-in_err-is_authority.ensures
    (memory-here _ _ (other-below p c.args.list.now c.args.octets
    c.in_ok-cert.cert c.in_ok-cert.ensures (λ strict. (c.in_err-is_authority.ensures.err strict).1)
    (holders c.args.below.now.items)))

pub returns-then-branch-clause-routers : goal.returns-then-branch-clause-routers
returns-then-branch-clause-routers g c =
    let p = g.P.Provider in
    other-routers p c.args.list.now c.args.octets c.in_ok-cert.cert
    c.in_ok-cert.ensures
    (told-authority c.in_ok-cert.cert c.in_ok-is_authority.field-0 c.if-branch.true c.in_ok-is_authority.ensures.ok)
    (values c.args.routers.now.items)

pub returns-then-branch-clause-below : goal.returns-then-branch-clause-below
returns-then-branch-clause-below g c =
    let p = g.P.Provider in
    let old = c.args.below.now.items in
    let a = c.in_ok-authority.authority in
    subst
    (λ (l : List Holder). AddsAuthoritiesHere p c.args.list.now c.args.octets
    (holders old) l)
    (sym (ap (λ (l : List (Authority g.row.P.Denot)). holders l) c.in_ok-add_below.ensures.items ∙ holders-push old a))
    (below-found p c.args.list.now c.args.octets c.in_ok-cert.cert
    c.in_ok-cert.ensures a c.in_ok-authority.ensures.cert c.in_ok-authority.ensures.ok (holders old))

pub returns-then-branch-clause-sisters : goal.returns-then-branch-clause-sisters
returns-then-branch-clause-sisters g c =
    let p = g.P.Provider in
    let old = c.args.below.now.items in
    let a = c.in_ok-authority.authority in
    subst (λ (l : List (Authority g.row.P.Denot)). AreSistersBelow c.args.list.now.issuer c.args.list.now.at old l)
    (sym c.in_ok-add_below.ensures.items)
    (sisters-one c.args.list.now.issuer c.args.list.now.at old (old ++ a ∷ []) a (λ b h. Contains-push_cases old a b h)
    (record {
      period = c.in_ok-authority.ensures.period;
      terms_are = c.in_ok-authority.ensures.terms;
      provider_is = c.in_ok-authority.ensures.provider;
      depth_is = c.in_ok-authority.ensures.depth;
      few = omega (
        arith,
        may-issue p c.args.list.now a c.add_below.ensures.verified
            c.in_ok-authority.ensures.period c.in_ok-authority.ensures.depth c.in_ok-authority.ensures.terms,
      );
    }))

pub returns-clause-routers : goal.returns-clause-routers
returns-clause-routers g c =
    let p = g.P.Provider in
    let old = c.args.routers.now.items in
    let found = routers-found p c.args.list.now c.args.octets c.in_ok-cert.cert
    c.in_ok-cert.ensures c.in_ok-value.value c.in_ok-value.ensures.cert c.in_ok-value.ensures.exactly (values old) in
    subst
    (λ (l : List Holder). AddsRoutersHere p c.args.list.now c.args.octets
    (values old) l)
    (sym (ap (λ (l : List (Payload Holder)). values l) c.in_ok-push.ensures.items
    ∙ values-push c.period_of-period.result old (c.in_ok-value.value ∷ []))) found

pub returns-clause-held : goal.returns-clause-held
returns-clause-held g c =
    let p = g.P.Provider in
    let old = c.args.routers.now.items in
    let value = c.in_ok-value.value in
    let Said = IsSaidHere p c.args.list.now SaysRouterBy c.args.octets in
    subst (λ (l : List (Payload Holder)). AddsOnly Said old l) (sym c.in_ok-push.ensures.items)
    (adds-one Said old (in_period c.period_of-period.result value) (
      value.cert,
      (
        router-said p c.args.list.now c.args.octets c.in_ok-cert.cert
            c.in_ok-cert.ensures value c.in_ok-value.ensures.cert c.in_ok-value.ensures.exactly,
        refl,
      ),
      subst (λ (x : Holder). IsPeriodUnder (CountsAt c.args.list.now) x.cert c.period_of-period.result)
          c.value.view_is c.period_of-period.ensures,
    ))

pub returns-in_err-cert-clause-held : goal.returns-in_err-cert-clause-held
returns-in_err-cert-clause-held g c = where-always _ _ (adds-nothing _ c.args.routers.now.items)

pub returns-in_err-is_authority-clause-held : goal.returns-in_err-is_authority-clause-held
returns-in_err-is_authority-clause-held g c = where-always _ _ (adds-nothing _ c.args.routers.now.items)

pub returns-in_err-authority-clause-held : goal.returns-in_err-authority-clause-held
returns-in_err-authority-clause-held g c = where-always _ _ (adds-nothing _ c.args.routers.now.items)

pub returns-in_err-value-clause-held : goal.returns-in_err-value-clause-held
returns-in_err-value-clause-held g c = where-always _ _ (adds-nothing _ c.args.routers.now.items)

pub returns-then-branch-clause-held : goal.returns-then-branch-clause-held
returns-then-branch-clause-held g c = adds-nothing _ c.args.routers.now.items

pub returns-clause-below : goal.returns-clause-below
returns-clause-below g c =
    let p = g.P.Provider in
    other-below p c.args.list.now c.args.octets c.in_ok-cert.cert
    c.in_ok-cert.ensures
    (told-router c.in_ok-cert.cert c.in_ok-is_authority.field-0 c.if-branch.false c.in_ok-is_authority.ensures.ok)
    (holders c.args.below.now.items)

pub returns-in_err-authority-clause-routers : goal.returns-in_err-authority-clause-routers
returns-in_err-authority-clause-routers g c =
    let p = g.P.Provider in
    tried-memory _ _ _ c.from_residual-in_err-authority.ensures
    (memory-here _ _ (other-routers p c.args.list.now c.args.octets
    c.in_ok-cert.cert c.in_ok-cert.ensures
    (told-authority c.in_ok-cert.cert c.in_ok-is_authority.field-0 c.if-branch.true c.in_ok-is_authority.ensures.ok)
    (values c.args.routers.now.items)))

pub returns-in_err-authority-clause-below : goal.returns-in_err-authority-clause-below
returns-in_err-authority-clause-below g c =
    let p = g.P.Provider in
    tried-memory _ _ _ c.from_residual-in_err-authority.ensures
    (no-below p c.args.list.now c.args.octets c.in_ok-cert.cert
    c.in_ok-cert.ensures _ (holders c.args.below.now.items) c.in_err-authority.ensures.err)

pub returns-in_err-value-clause-routers : goal.returns-in_err-value-clause-routers
returns-in_err-value-clause-routers g c =
    let p = g.P.Provider in
    tried-memory _ _ _ c.from_residual-in_err-value.ensures
    (no-routers p c.args.list.now c.args.octets c.in_ok-cert.cert
    c.in_ok-cert.ensures _ _ (values c.args.routers.now.items) c.in_err-value.ensures.exactly)

pub returns-in_err-value-clause-below : goal.returns-in_err-value-clause-below
returns-in_err-value-clause-below g c =
    let p = g.P.Provider in
    tried-memory _ _ _ c.from_residual-in_err-value.ensures
    (memory-here _ _ (other-below p c.args.list.now c.args.octets
    c.in_ok-cert.cert c.in_ok-cert.ensures
    (told-router c.in_ok-cert.cert c.in_ok-is_authority.field-0 c.if-branch.false c.in_ok-is_authority.ensures.ok)
    (holders c.args.below.now.items)))

-- ---- the authorities that are added

pub returns-then-branch-clause-children : goal.returns-then-branch-clause-children
returns-then-branch-clause-children g c =
    let p = g.P.Provider in
    let old = c.args.below.now.items in
    let a = c.in_ok-authority.authority in
    let Child = IsChildHere p c.args.list.now c.args.octets in
    subst (λ (l : List (Authority g.row.P.Denot)). AddsOnly Child old l) (sym c.in_ok-add_below.ensures.items)
    (adds-one Child old a (
      authority-said p c.args.list.now c.args.octets c.in_ok-cert.cert
          c.in_ok-cert.ensures a c.in_ok-authority.ensures.cert c.in_ok-authority.ensures.ok,
      subst (λ (x : CertParts). IsPeriodUnder (CountsAt c.args.list.now) x a.period)
          (sym c.in_ok-authority.ensures.cert) c.in_ok-authority.ensures.holds,
    ))

-- ---- whether it counts

pub returns-in_err-cert-clause-why : goal.returns-in_err-cert-clause-why
returns-in_err-cert-clause-why g c =
    let p = g.P.Provider in
    tried-fault _ _ _ _ c.from_residual.ensures
    (unread-cert p c.args.list.now c.args.octets _ c.in_err-cert.ensures)

pub returns-in_err-is_authority-clause-why : goal.returns-in_err-is_authority-clause-why
returns-in_err-is_authority-clause-why g c =
    let p = g.P.Provider in
    tried-fault _ _ _ _ c.from_residual-in_err-is_authority.ensures
    (wrong-constraints p c.args.list.now c.args.octets c.in_ok-cert.cert
    c.in_ok-cert.ensures _ (λ strict. (c.in_err-is_authority.ensures.err strict).0)
    (λ strict. (c.in_err-is_authority.ensures.err strict).1) c.in_err-is_authority.ensures.reason)

pub returns-in_err-authority-clause-why : goal.returns-in_err-authority-clause-why
returns-in_err-authority-clause-why g c =
    let p = g.P.Provider in
    tried-fault _ _ _ _ c.from_residual-in_err-authority.ensures
    (no-authority p c.args.list.now c.args.octets c.in_ok-cert.cert
    c.in_ok-cert.ensures _
    (told-authority c.in_ok-cert.cert c.in_ok-is_authority.field-0 c.if-branch.true c.in_ok-is_authority.ensures.ok)
    c.in_err-authority.ensures.err)

pub returns-in_err-value-clause-why : goal.returns-in_err-value-clause-why
returns-in_err-value-clause-why g c =
    let p = g.P.Provider in
    tried-fault _ _ _ _ c.from_residual-in_err-value.ensures
    (no-router p c.args.list.now c.args.octets c.in_ok-cert.cert
    c.in_ok-cert.ensures _
    (told-router c.in_ok-cert.cert c.in_ok-is_authority.field-0 c.if-branch.false c.in_ok-is_authority.ensures.ok)
    c.in_err-value.ensures.exactly)

pub returns-then-branch-clause-why : goal.returns-then-branch-clause-why
returns-then-branch-clause-why g c =
    let p = g.P.Provider in
    authority-counts p c.args.list.now c.args.octets c.in_ok-cert.cert
    c.in_ok-cert.ensures c.in_ok-authority.authority c.in_ok-authority.ensures.cert c.in_ok-authority.ensures.ok
    (may-issue p c.args.list.now c.in_ok-authority.authority
    c.add_below.ensures.verified c.in_ok-authority.ensures.period c.in_ok-authority.ensures.depth
    c.in_ok-authority.ensures.terms)

pub returns-clause-why : goal.returns-clause-why
returns-clause-why g c =
    let p = g.P.Provider in
    router-counts p c.args.list.now c.args.octets c.in_ok-cert.cert
    c.in_ok-cert.ensures c.in_ok-value.value c.in_ok-value.ensures.cert c.in_ok-value.ensures.exactly
