-- What a walk finds is exactly what is valid under a locator.
use Rattle.std.specs.Prelude.{◌≡◌, ◌⊎◌, ◌↔◌, ◌<◌, ◌+◌, not, ℕ, Bool, true, false, List, Option, Result}
use Rattle.std.specs.Prelude.{IsTrue, MatchResult, codes}
use Rattle.std.specs.List.{Contains}
use Rattle.jiff.specs.Types.{DateTime}
use Rattle.rpki.specs.Checkers.{Models}
use Rattle.rpki_contents.specs.declared.route_origin.RouteOrigin.{RouteOrigin}
use Rattle.rpki_contents.specs.Aspa.{AspaParts}
use Rattle.rpki_locator.specs.declared.anchor_uri.AnchorUri.{AnchorUri}
use Rattle.rpki_objects.specs.TypedObject.{TypedParts}
use Rattle.rpki_valid.specs.Verified.{Authority, Holder, Terms}
use Rattle.rpki_validation.specs.declared.outcome.Outcome.{Outcome}
use Rattle.rpki_validation.specs.declared.outcome.Rejection.{Rejection}
use Rattle.rpki_validation.specs.declared.payload.Payload.{Payload}
use Rattle.rpki_validation.specs.declared.stop.Stop.{Stop}
use Rattle.rpki_validation.specs.Alike.{PublishTheSame}
use Rattle.rpki_validation.specs.Basis.{Basis, basis_by, basis_of, holder_of}
use Rattle.rpki_validation.specs.Counts.{Counts, CountsAt}
use Rattle.rpki_validation.specs.Finding.{IsSole, StopsAt}
use Rattle.rpki_validation.specs.Held.{AddsHeld, IsSaidOf}
use Rattle.rpki_validation.specs.Holding.{AreProvidersFor, IsOriginFor, IsRouterFor, SaysOriginBy, SaysProvidersBy}
use Rattle.rpki_validation.specs.Holding.{SaysRouterBy, values}
use Rattle.rpki_validation.specs.Met.{HasMark, Mark}
use Rattle.rpki_validation.specs.Named.{IsNamedBelow}
use Rattle.rpki_validation.specs.Payload.{AreProviders, IsOrigin, IsRouter}
use Rattle.rpki_validation.specs.Reached.{IsBelow, IsFirstAnchor, IsNoAnchor}
use Rattle.rpki_validation.specs.Rejected.{IsNotedUnder, IsRejection}
use Rattle.rpki_validation.specs.Rejecting.{IsChild, Only, Rejects}
use Rattle.rpki_validation.specs.Said.{SaysOrigin, SaysProviders, SaysRouter}
use Rattle.rpki_validation.specs.Sisters.{IsSister}
use Rattle.rpki_validation.specs.Snapshot.{Published, Where}
use Rattle.rpki_validation.specs.Taking.{Adds}
use Rattle.rpki_validation.specs.Waiting.{Entry, HasKey, Key}

-- ---- the whole

-- an attestation of providers says these
abbrev pub SayProviders : List (TypedParts AspaParts) → AspaParts → Type 0
SayProviders all v = (x : TypedParts AspaParts) × Contains all x × (x.content ≡ v)

-- A locator with these URIs has a trust anchor; and the payloads are those that are valid under it, and no others, each
-- in its period. Each rejection is one of an authority that counts, and has a true reason; and all that is rejected of
-- it is among them. And no place is passed over: of what is below one that counts, where a path may be longer,
-- something that counts publishes the same.
pub record AreExactly (published : Published) (basis : Basis) (uris : List AnchorUri) (o : Outcome) : Type 0 where
  pub anchor : Holder
  pub first : IsFirstAnchor published basis uris anchor
  pub origins : (v : RouteOrigin) → Contains (values o.origins.items) v ↔ IsOrigin published basis uris v
  pub providers : (v : AspaParts) → SayProviders (values o.providers.items) v ↔ AreProviders published basis uris v
  pub routers : (x : Holder) → Contains (values o.routers.items) x ↔ IsRouter published basis uris x
  pub origins_hold : (v : Payload RouteOrigin) → Contains o.origins.items v → IsOriginFor published basis uris v
  pub providers_hold : (v : Payload (TypedParts AspaParts)) → Contains o.providers.items v
      → AreProvidersFor published basis uris v
  pub routers_hold : (v : Payload Holder) → Contains o.routers.items v → IsRouterFor published basis uris v
  pub rejections : (r : Rejection) → Contains o.rejections.items r → IsRejection published basis uris r
  pub rejected : (x : Holder) → Counts published basis uris x
      → IsNotedUnder published basis uris o.rejections.items x
  pub covered : (k : ℕ) (x y : Holder) → CountsAt published basis uris k x → k < basis.terms.deepest
      → IsBelow published basis x y → (z : Holder) × Counts published basis uris z × PublishTheSame z y

-- the payloads of a locator; or why it has no trust anchor
abbrev pub Validates : {X : Type 0} → Models X → Terms → X → DateTime → Option Published → List AnchorUri
    → Result Outcome Stop → Type 0
Validates models terms provider at known uris r =
    let basis = basis_by models terms provider at in
    Where known (λ published. MatchResult r (AreExactly published basis uris)
    (StopsAt (IsFirstAnchor published basis uris) (IsNoAnchor published basis uris)))

-- ---- the walk

-- where the trust anchor is that of a locator with these URIs, what is valid below it
abbrev pub TellsBelow : {X : Type 0} → Models X → Option Published → DateTime → Authority X → Outcome → Type 0
TellsBelow models known at anchor o =
    let basis = basis_of models anchor at in
    Where known (λ published. (uris : List AnchorUri)
    → IsSole (IsFirstAnchor published basis uris) (holder_of anchor) → AreExactly published basis uris o)

-- ---- one authority that is looked at

-- an authority that waits is below the one, under its steps and its mark; and by name, where both are named
pub record IsWaitingBelow {X : Type 0} (published : Published) (basis : Basis) (is_named : Bool) (issuer : Authority X)
    (e : Entry X) : Type 0 where
  pub child : IsChild published basis issuer e.1
  pub marked : HasMark (holder_of e.1) e.0.1.1
  pub depth : e.0.1.0 ≡ e.1.depth
  pub named : IsTrue (not e.0.0)
      → IsTrue is_named × IsNamedBelow published basis (holder_of issuer) (holder_of e.1)

-- it waits under so many steps
abbrev pub WaitsUnder : {X : Type 0} → List (Entry X) → Bool → ℕ → Holder → Type 0
WaitsUnder w is_other k x = (m : Mark) × HasMark x m × HasKey w (is_other, (k, m))

-- What the authority says is added, and what is rejected of it; and what is below it waits: as named, where both are.
pub record LooksAtOne {X : Type 0} (published : Published) (basis : Basis) (is_named : Bool) (issuer : Authority X)
    (w w' : List (Entry X)) (o o' : Outcome) : Type 0 where
  pub origins : Adds (SaysOrigin published basis (holder_of issuer)) (values o.origins.items) (values o'.origins.items)
  pub providers : Adds (SaysProviders published basis (holder_of issuer)) (values o.providers.items)
      (values o'.providers.items)
  pub routers : Adds (SaysRouter published basis (holder_of issuer)) (values o.routers.items) (values o'.routers.items)
  pub held : AddsHeld (IsSaidOf published basis (codes ".roa") SaysOriginBy issuer)
      (IsSaidOf published basis (codes ".asa") SaysProvidersBy issuer)
      (IsSaidOf published basis (codes ".cer") SaysRouterBy issuer) o o'
  pub rejected : Rejects published basis issuer.depth (Only (holder_of issuer)) o.rejections.items o'.rejections.items
  pub only : (e : Entry X) → Contains w' e
      → Contains w e ⊎ IsWaitingBelow published basis is_named issuer e
  pub named : IsTrue is_named → issuer.depth < issuer.terms.deepest → (x : Holder)
      → IsNamedBelow published basis (holder_of issuer) x → WaitsUnder w' false (issuer.depth + 1) x
  pub others : issuer.depth < issuer.terms.deepest → (x : Holder) → IsBelow published basis (holder_of issuer) x
      → (IsTrue is_named × IsNamedBelow published basis (holder_of issuer) x)
      ⊎ WaitsUnder w' true (issuer.depth + 1) x
  pub kept : (key : Key) → HasKey w key → HasKey w' key

abbrev pub LooksAt : {X : Type 0} → Models X → Option Published → DateTime → Bool → Authority X → List (Entry X)
    → List (Entry X) → Outcome → Outcome → Type 0
LooksAt models known at is_named issuer w w' o o' =
    Where known (λ published. LooksAtOne published (basis_of models issuer at) is_named issuer w w' o o')

-- each that waits was there, or is one step below the authority
abbrev pub WaitBelow : {X : Type 0} → Authority X → DateTime → List (Entry X) → List (Entry X) → Type 0
WaitBelow issuer at w w' =
    (e : Entry _) → Contains w' e
    → Contains w e ⊎ IsSister issuer.terms issuer.provider at (issuer.depth + 1) e.1
