-- The payloads under locators.
use Rattle.std.specs.Prelude.{ℕ, List, Option}
use Rattle.std.specs.List.{Contains, flat_map}
use Rattle.rpki_payloads.specs.declared.router_key.RouterKey.{RouterKey}
use Rattle.rpki_payloads.specs.declared.tally.Tally.{Tally}
use Rattle.rpki_payloads.specs.declared.timed.TimedVrp.{TimedVrp}
use Rattle.rpki_payloads.specs.declared.vap.CustomerProvider.{CustomerProvider}
use Rattle.rpki_payloads.specs.declared.vrp.Vrp.{Vrp}
use Rattle.rpki_payloads.specs.Sets.{IsSetOf}
use Rattle.rpki_payloads.specs.Timed.{AreLatest}
use Rattle.rpki_payloads.specs.Vap.{pair_cmp}
use Rattle.rpki_payloads.specs.Vrp.{vrp_cmp}

-- the name of a locator, and the payloads under it: prefixes that may be announced, these with their ends, providers,
-- and keys of routers; and what is counted beside them, where they were found by a validation
pub record PayloadParts : Type 0 where
  pub name : List ℕ
  pub vrps : List Vrp
  pub timed : List TimedVrp
  pub pairs : List CustomerProvider
  pub keys : List RouterKey
  pub tally : Option Tally

abbrev pub payload_parts : List ℕ → List Vrp → List TimedVrp → List CustomerProvider → List RouterKey → Option Tally
    → PayloadParts
payload_parts name vrps timed pairs keys tally =
    record { name = name; vrps = vrps; timed = timed; pairs = pairs; keys = keys; tally = tally }

-- the prefixes of all locators, each once, in order
abbrev pub AreUnited : List PayloadParts → List Vrp → Type 0
AreUnited all = IsSetOf vrp_cmp (Contains (flat_map (λ p. p.vrps) all))

-- these with their ends: the latest end of each under any locator
abbrev pub AreUnitedTimed : List PayloadParts → List TimedVrp → Type 0
AreUnitedTimed all = AreLatest (flat_map (λ p. p.timed) all)

-- the providers of all locators, each once, in order
abbrev pub AreUnitedPairs : List PayloadParts → List CustomerProvider → Type 0
AreUnitedPairs all = IsSetOf pair_cmp (Contains (flat_map (λ p. p.pairs) all))
