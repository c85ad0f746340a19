-- The form of JSON that StayRTR serves to routers: origins with their ends, keys as BGPsec has them, and providers for
-- each family of addresses.
use Rattle.std.specs.Prelude.{ℕ, ◌-◌, ◌+◌, List, ◌++◌, drop, codes, decimal, if◌then◌else◌, length, nat_lt}
use Rattle.std.specs.List.{flat_map, range_with_len}
use Rattle.base64.specs.Engines.{standard}
use Rattle.base64.specs.GeneralPurpose.{encode_of}
use Rattle.jiff.specs.Types.{DateTime}
use Rattle.rpki_contents.specs.Aspa.{AspaParts}
use Rattle.rpki_text.specs.HexText.{hex_text}
use Rattle.rpki_payloads.specs.declared.router_key.RouterKey.{RouterKey}
use Rattle.rpki_payloads.specs.declared.timed.TimedVrp.{TimedVrp}
use Rattle.rpki_payloads.specs.Json.{json_array, json_length, json_name, json_prefix, json_string}
use Rattle.rpki_payloads.specs.Made.{json_metadata, key_count, vrp_count}
use Rattle.rpki_payloads.specs.Payloads.{PayloadParts}

-- the first member of an object: a number
unfoldable pub stay_number : ℕ → List ℕ
stay_number n = codes ",\n    { \"asn\": " ++ decimal n

-- ---- prefixes that may be announced

-- the last second in which it is valid, since 1970-01-01T00:00:00Z
unfoldable pub stay_end : ℕ → List ℕ
stay_end n = codes ", \"expires\": " ++ decimal n

-- as an object after a comma
unfoldable pub stay_origin : List ℕ → TimedVrp → List ℕ
stay_origin name t =
    stay_number t.vrp.as_id ++ json_prefix t.vrp ++ json_length t.vrp ++ stay_end t.expires ++ json_name name

-- those under a locator
abbrev pub stay_origins : PayloadParts → List ℕ
stay_origins p = flat_map (stay_origin (json_string p.name)) p.timed

-- ---- keys of routers

-- the identifier in hexadecimal digits, and the key in base 64 (RFC 4648 4)
unfoldable pub stay_identifier : RouterKey → List ℕ
stay_identifier k = codes ", \"ski\": \"" ++ hex_text k.identifier ++ codes "\""

unfoldable pub stay_info : RouterKey → List ℕ
stay_info k = codes ", \"pubkey\": \"" ++ encode_of standard k.info ++ codes "\""

-- for one AS number, as an object after a comma
unfoldable pub stay_key : List ℕ → RouterKey → ℕ → List ℕ
stay_key name k n = stay_number n ++ stay_identifier k ++ stay_info k ++ json_name name

-- How many AS numbers a key has. A router is told a key number by number (RFC 8210 5.10), and one certificate can have
-- all 2^32: of more than 256 numbers none is told.
abbrev pub told_count : RouterKey → ℕ
told_count k = if nat_lt k.last k.first then 0 else if nat_lt (k.last - k.first) 256 then k.last - k.first + 1 else 0

abbrev pub stay_numbers : List ℕ → RouterKey → List ℕ
stay_numbers name k = flat_map (stay_key name k) (range_with_len k.first (told_count k))

-- those under a locator
abbrev pub stay_keys : PayloadParts → List ℕ
stay_keys p = flat_map (stay_numbers (json_string p.name)) p.keys

-- ---- providers, which are the same for both families of addresses

-- as a number after a comma
unfoldable pub stay_provider : ℕ → List ℕ
stay_provider n = codes ", " ++ decimal n

unfoldable pub stay_customer : ℕ → List ℕ
stay_customer n = codes ",\n    { \"customer_asid\": " ++ decimal n ++ codes ", \"providers\": ["

-- a customer and its providers, as an object after a comma
unfoldable pub stay_vap : AspaParts → List ℕ
stay_vap x = stay_customer x.customer ++ drop 2 (flat_map stay_provider x.providers) ++ codes "] }"

-- ---- the whole

abbrev pub stay_providers : List ℕ → List ℕ
stay_providers customers =
    json_array (codes ",\n  \"provider_authorizations\": {\n  \"ipv4\"") customers
    ++ json_array (codes ",\n  \"ipv6\"") customers ++ codes "\n  }\n}\n"

abbrev pub stay_arrays : (origins keys customers : List ℕ) → List ℕ
stay_arrays origins keys customers =
    json_array (codes "  \"roas\"") origins ++ json_array (codes ",\n  \"bgpsec_keys\"") keys
    ++ stay_providers customers

abbrev pub stay_text : List PayloadParts → List AspaParts → DateTime → List ℕ
stay_text all customers made =
    json_metadata made (vrp_count all) (key_count all) (length customers)
    ++ stay_arrays (flat_map stay_origins all) (flat_map stay_keys all) (flat_map stay_vap customers)
