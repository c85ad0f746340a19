-- What payloads say of a route (RFC 6811 2).
use Rattle.std.specs.Prelude.{◌≡◌, ◌&&◌, ℕ, Bool, true, false, List, [], ◌++◌, codes, decimal, not, nat_eq, nat_le}
use Rattle.std.specs.Prelude.{if◌then◌else◌}
use Rattle.std.specs.List.{flat_map, list_any}
use Rattle.std.specs.Net.Text.{ip_text}
use Rattle.rpki_resources.specs.Text.{as_number_text, prefix_text}
use Rattle.rpki_payloads.specs.declared.route.Route.{Route}
use Rattle.rpki_payloads.specs.declared.route.RouteState.{RouteState}
use Rattle.rpki_payloads.specs.declared.route.RouteState.TheVariants.{Valid, Invalid, NotFound}
use Rattle.rpki_payloads.specs.declared.vrp.Vrp.{Vrp}
use Rattle.rpki_payloads.specs.Covered.{covers}
use Rattle.rpki_payloads.specs.Lines.{vrp_prefix}
use Rattle.rpki_payloads.specs.Payloads.{AreUnited, PayloadParts}
use Rattle.rpki_payloads.specs.Vrp.{prefix_of}

-- the prefix of the payload covers that of the route
abbrev pub is_covered_by : Route → Vrp → Bool
is_covered_by r v = covers (prefix_of v) r.prefix

-- The payload has the AS of the route; no route has AS 0.
abbrev pub has_origin : Route → Vrp → Bool
has_origin r v = nat_eq r.as_id v.as_id && not (nat_eq r.as_id 0)

-- the prefix of the route is no longer than the maximum length
abbrev pub is_short : Route → Vrp → Bool
is_short r v = nat_le r.prefix.len v.max_length

-- the route is matched: covered, of that AS, and no longer
abbrev pub is_matched_by : Route → Vrp → Bool
is_matched_by r v = is_covered_by r v && (has_origin r v && is_short r v)

-- Valid where a payload matches the route; invalid where one covers it, and none matches; else not found.
abbrev pub state_of : Route → List Vrp → RouteState
state_of r vrps =
    if list_any (is_matched_by r) vrps then Valid else if list_any (is_covered_by r) vrps then Invalid else NotFound

-- ---- texts

abbrev pub state_text : RouteState → List ℕ
state_text Valid = codes ": valid\n"
state_text Invalid = codes ": invalid\n"
state_text NotFound = codes ": not found\n"

abbrev pub match_text : (origin short : Bool) → List ℕ
match_text true true = codes ": match\n"
match_text true false = codes ": no match: the length\n"
match_text false true = codes ": no match: the AS number\n"
match_text false false = codes ": no match: the AS number and the length\n"

-- `AS64496,10.0.0.0/8,24`, and whether it matches; nothing of a payload that doesn't cover the route
unfoldable pub payload_text : Vrp → List ℕ
payload_text v = as_number_text v.as_id ++ (codes "," ++ (vrp_prefix v ++ (codes "," ++ decimal v.max_length)))

abbrev pub covering_line : Route → Vrp → List ℕ
covering_line r v =
    if is_covered_by r v then payload_text v ++ match_text (has_origin r v) (is_short r v) else []

-- `AS64496,10.0.0.0/8: valid`, and a line for each payload that covers the route
unfoldable pub route_line : Route → List ℕ
route_line r = as_number_text r.as_id ++ (codes "," ++ prefix_text (ip_text r.prefix.addr) r.prefix.len)

abbrev pub route_text : Route → List Vrp → List ℕ
route_text r vrps = route_line r ++ state_text (state_of r vrps) ++ flat_map (covering_line r) vrps

-- of the payloads under all locators, each once
abbrev pub IsRouteText : Route → List PayloadParts → List ℕ → Type 0
IsRouteText r all text = (vrps : List Vrp) × AreUnited all vrps × (text ≡ route_text r vrps)
