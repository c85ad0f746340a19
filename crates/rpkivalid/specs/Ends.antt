-- Until when route origins are valid.
use Rattle.std.specs.Prelude.{◌≡◌, ◌↔◌, ℕ, ℤ, List, Option, if◌then◌else◌, int_lt, pos, unsigned_abs}
use Rattle.std.specs.List.{Contains}
use Rattle.jiff.specs.Types.{DateTime}
use Rattle.jiff.specs.Words.{civil_nanos}
use Rattle.rpki_time.specs.Time.{IsFloorSecond}
use Rattle.rpki_contents.specs.declared.route_origin.RouteOrigin.{RouteOrigin}
use Rattle.rpki_locator.specs.declared.anchor_uri.AnchorUri.{AnchorUri}
use Rattle.rpki_payloads.specs.declared.timed.TimedVrp.{TimedVrp}
use Rattle.rpki_payloads.specs.Exceptions.{AreEach}
use Rattle.rpki_payloads.specs.Timed.{AreLatest}
use Rattle.rpki_payloads.specs.Vrp.{vrp_of}
use Rattle.rpki_validation.specs.declared.payload.Payload.{Payload}
use Rattle.rpki_validation.specs.Basis.{Basis}
use Rattle.rpki_validation.specs.Holding.{IsOriginFor, values}
use Rattle.rpki_validation.specs.Payload.{IsOrigin}
use Rattle.rpki_validation.specs.Snapshot.{Published, Where}

-- the whole seconds since 1970-01-01T00:00:00Z of a moment, and 0 of one before that
abbrev pub IsSecondOf : DateTime → ℕ → Type 0
IsSecondOf d n = (s : ℤ) × IsFloorSecond (civil_nanos d) s × (n ≡ (if int_lt s (pos 0) then 0 else unsigned_abs s))

-- the route origin, with the second that its period ends in
pub record IsTimed (v : Payload RouteOrigin) (t : TimedVrp) : Type 0 where
  pub vrp : t.vrp ≡ vrp_of v.value
  pub expires : IsSecondOf v.period.not_after t.expires

-- these route origins, each once, with the latest second that a period of it ends in
abbrev pub AreEnds : List (Payload RouteOrigin) → List TimedVrp → Type 0
AreEnds origins all = (ends : List TimedVrp) × AreEach IsTimed origins ends × AreLatest ends all

-- The route origins that are valid under a locator, each in a period through which a path to it holds; and their ends.
pub record AreTimed (known : Option Published) (basis : Basis) (uris : List AnchorUri) (all : List TimedVrp) : Type 0
  where
    pub origins : List (Payload RouteOrigin)
    pub hold : Where known (λ published. (v : Payload RouteOrigin) → Contains origins v
        → IsOriginFor published basis uris v)
    pub each : Where known (λ published. (v : RouteOrigin) → Contains (values origins) v
        ↔ IsOrigin published basis uris v)
    pub ends : AreEnds origins all
