-- Payloads with the second until which they are valid.
use Rattle.std.specs.Prelude.{◌≡◌, ◌<◌, ℕ, List}
use Rattle.std.specs.List.{Contains}
use Rattle.std.specs.Ordering.{nat_cmp, ordering_then}
use Rattle.std.specs.declared.cmp.Ordering.{Ordering}
use Rattle.rpki_payloads.specs.declared.timed.TimedVrp.{TimedVrp}
use Rattle.rpki_payloads.specs.declared.vrp.Vrp.{Vrp}
use Rattle.rpki_payloads.specs.Sets.{IsSetOf}
use Rattle.rpki_payloads.specs.Vrp.{vrp_cmp}

abbrev pub timed : Vrp → ℕ → TimedVrp
timed v n = record { vrp = v; expires = n }

-- by the payload, and then by the end
abbrev pub timed_cmp : TimedVrp → TimedVrp → Ordering
timed_cmp s t = ordering_then (vrp_cmp s.vrp t.vrp) (nat_cmp s.expires t.expires)

-- another of these has the same payload, and a later end
abbrev pub HasLater : List TimedVrp → TimedVrp → Type 0
HasLater all t = (s : TimedVrp) × Contains all s × (s.vrp ≡ t.vrp) × (t.expires < s.expires)

-- one of these, of which none has the same payload and a later end
abbrev pub IsLatest : List TimedVrp → TimedVrp → Type 0
IsLatest all t = Contains all t × (HasLater all t → ⊥)

-- each payload of these once, with its latest end, in order
abbrev pub AreLatest : List TimedVrp → List TimedVrp → Type 0
AreLatest all = IsSetOf timed_cmp (IsLatest all)

-- a payload with no end of its own: the last second of the year 9999 (RFC 5280 4.1.2.5)
abbrev pub endless : Vrp → TimedVrp
endless v = timed v 253402300799
