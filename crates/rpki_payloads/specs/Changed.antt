-- What local exceptions change of the payloads that cover a route: which filters take them away, and which are added
-- (RFC 8416 3.3.1, 3.4.1).
use Rattle.std.specs.Prelude.{◌≡◌, ◌&&◌, ◌++◌, ℕ, Bool, true, List, [], Option, Some, None, codes, if◌then◌else◌}
use Rattle.std.specs.Prelude.{nat_eq, string_bytes}
use Rattle.std.specs.List.{flat_map}
use Rattle.std.specs.Net.Text.{ip_text}
use Rattle.rpki_resources.specs.declared.ip_text.Prefix.{Prefix}
use Rattle.rpki_resources.specs.Text.{as_number_text, prefix_text}
use Rattle.rpki_payloads.specs.declared.exceptions.NamedExceptions.{NamedExceptions}
use Rattle.rpki_payloads.specs.declared.filters.PrefixFilter.{PrefixFilter}
use Rattle.rpki_payloads.specs.declared.route.Route.{Route}
use Rattle.rpki_payloads.specs.declared.vrp.Vrp.{Vrp}
use Rattle.rpki_payloads.specs.Covered.{covers}
use Rattle.rpki_payloads.specs.Payloads.{AreUnited, PayloadParts}
use Rattle.rpki_payloads.specs.Route.{is_covered_by, payload_text}
use Rattle.rpki_payloads.specs.Vrp.{prefix_of}

-- the prefix is covered, and the number is the same, where there is one
abbrev pub covers_if : Option Prefix → Prefix → Bool
covers_if None p = true
covers_if (Some cover) p = covers cover p

abbrev pub is_number : Option ℕ → ℕ → Bool
is_number None n = true
is_number (Some number) n = nat_eq n number

-- the filter matches the payload, as a test
abbrev pub matches : PrefixFilter → Vrp → Bool
matches f v = covers_if f.prefix (prefix_of v) && is_number f.asn v.as_id

-- ---- texts

-- what a filter asks: `10.0.0.0/8`, `AS64496`, or `10.0.0.0/8, AS64496`
abbrev pub asked_text : Option Prefix → Option ℕ → List ℕ
asked_text None None = []
asked_text None (Some number) = as_number_text number
asked_text (Some p) None = prefix_text (ip_text p.addr) p.len
asked_text (Some p) (Some number) = prefix_text (ip_text p.addr) p.len ++ (codes ", " ++ as_number_text number)

-- `AS64496,10.0.0.0/8,24: filtered by local: 10.0.0.0/8`; nothing of a filter that doesn't match the payload
abbrev pub filtered_line : (name : List ℕ) → Vrp → PrefixFilter → List ℕ
filtered_line name v f =
    if matches f v then
    payload_text v ++ (codes ": filtered by " ++ (name ++ (codes ": " ++ (asked_text f.prefix f.asn ++ codes "\n"))))
    else []

-- by the filters of a file, and of all files; nothing of a payload that doesn't cover the route
abbrev pub filtered_by : Vrp → NamedExceptions → List ℕ
filtered_by v file = flat_map (filtered_line (string_bytes file.name) v) file.exceptions.prefix_filters.items

abbrev pub filtered_lines : Route → List NamedExceptions → Vrp → List ℕ
filtered_lines r files v = if is_covered_by r v then flat_map (filtered_by v) files else []

-- `AS64496,10.0.0.0/8,24: added by local`; nothing of a payload that doesn't cover the route
abbrev pub added_line : Route → (name : List ℕ) → Vrp → List ℕ
added_line r name v =
    if is_covered_by r v then payload_text v ++ (codes ": added by " ++ (name ++ codes "\n")) else []

-- by the assertions of a file
abbrev pub added_by : Route → NamedExceptions → List ℕ
added_by r file = flat_map (added_line r (string_bytes file.name)) file.exceptions.vrps.items

-- which filters match each payload, and then which are added
abbrev pub changed_text : Route → List NamedExceptions → List Vrp → List ℕ
changed_text r files vrps = flat_map (filtered_lines r files) vrps ++ flat_map (added_by r) files

-- of the payloads under all locators, each once
abbrev pub IsChangedText : Route → List NamedExceptions → List PayloadParts → List ℕ → Type 0
IsChangedText r files all text = (vrps : List Vrp) × AreUnited all vrps × (text ≡ changed_text r files vrps)
