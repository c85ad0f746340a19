-- The form of an object of JSON (RFC 8259 4), as of Routinator: after `metadata` each of its members is an array of
-- objects.
use Rattle.std.specs.Prelude.{ℕ, List, ◌++◌, ◌==◌, if◌then◌else◌, drop, codes, decimal, length}
use Rattle.std.specs.List.{flat_map}
use Rattle.std.specs.Str.Lossy.{utf8_lossy}
use Rattle.base64.specs.Engines.{url_safe_no_pad_indifferent}
use Rattle.base64.specs.GeneralPurpose.{encode_of}
use Rattle.serde_json.specs.Data.{string}
use Rattle.serde_json.specs.Written.{compact_text}
use Rattle.jiff.specs.Types.{DateTime}
use Rattle.rpki_contents.specs.Aspa.{AspaParts}
use Rattle.rpki_resources.specs.Text.{as_number_text}
use Rattle.rpki_text.specs.HexText.{hex_text}
use Rattle.rpki_payloads.specs.declared.router_key.RouterKey.{RouterKey}
use Rattle.rpki_payloads.specs.declared.vrp.Vrp.{Vrp}
use Rattle.rpki_payloads.specs.Lines.{vrp_prefix}
use Rattle.rpki_payloads.specs.Made.{json_metadata, key_count, vrp_count}
use Rattle.rpki_payloads.specs.Payloads.{PayloadParts}

-- A text as a string of JSON, in quotation marks (RFC 8259 7), as `serde_json` writes it. What is not UTF-8 is
-- replaced, so that the whole is JSON whatever the octets.
abbrev pub json_string : List ℕ → List ℕ
json_string text = compact_text (string (utf8_lossy text))

-- the last member of an object: a string of JSON, the name of the locator
unfoldable pub json_name : List ℕ → List ℕ
json_name name = codes ", \"ta\": " ++ name ++ codes " }"

-- ---- prefixes that may be announced

-- the members: the AS number, the prefix, and the maximum length
unfoldable pub json_number : Vrp → List ℕ
json_number v = codes "{ \"asn\": \"" ++ as_number_text v.as_id ++ codes "\""

unfoldable pub json_prefix : Vrp → List ℕ
json_prefix v = codes ", \"prefix\": \"" ++ vrp_prefix v ++ codes "\""

unfoldable pub json_length : Vrp → List ℕ
json_length v = codes ", \"maxLength\": " ++ decimal v.max_length

-- as an object after a comma
unfoldable pub json_vrp : List ℕ → Vrp → List ℕ
json_vrp name v = codes ",\n    " ++ json_number v ++ json_prefix v ++ json_length v ++ json_name name

-- those under a locator
abbrev pub json_vrps : PayloadParts → List ℕ
json_vrps p = flat_map (json_vrp (json_string p.name)) p.vrps

-- ---- keys of routers

-- the members: the AS number, or the lowest and the highest of a range as numbers; the identifier in hexadecimal
-- digits; and the key in base 64 (RFC 4648 5, without padding)
unfoldable pub json_number_alone : ℕ → List ℕ
json_number_alone n = codes "{ \"asn\": \"" ++ as_number_text n ++ codes "\""

unfoldable pub json_range : ℕ → ℕ → List ℕ
json_range first last = codes "{ \"minAsn\": " ++ (decimal first ++ (codes ", \"maxAsn\": " ++ decimal last))

abbrev pub json_numbers : RouterKey → List ℕ
json_numbers k = if k.first == k.last then json_number_alone k.first else json_range k.first k.last

unfoldable pub json_identifier : RouterKey → List ℕ
json_identifier k = codes ", \"SKI\": \"" ++ hex_text k.identifier ++ codes "\""

unfoldable pub json_info : RouterKey → List ℕ
json_info k = codes ", \"routerPublicKey\": \"" ++ encode_of url_safe_no_pad_indifferent k.info ++ codes "\""

-- as an object after a comma
unfoldable pub json_key : List ℕ → RouterKey → List ℕ
json_key name k = codes ",\n    " ++ json_numbers k ++ json_identifier k ++ json_info k ++ json_name name

-- those under a locator
abbrev pub json_keys : PayloadParts → List ℕ
json_keys p = flat_map (json_key (json_string p.name)) p.keys

-- ---- providers

-- as a string after a comma
unfoldable pub json_provider : ℕ → List ℕ
json_provider n = codes ", \"" ++ as_number_text n ++ codes "\""

unfoldable pub json_customer : ℕ → List ℕ
json_customer n = codes ",\n    { \"customer\": \"" ++ as_number_text n ++ codes "\", \"providers\": ["

-- a customer and its providers, as an object after a comma
unfoldable pub json_vap : AspaParts → List ℕ
json_vap x = json_customer x.customer ++ drop 2 (flat_map json_provider x.providers) ++ codes "] }"

-- ---- the whole

-- objects, without the first comma, after the name of the member
abbrev pub json_array : List ℕ → List ℕ → List ℕ
json_array name objects = name ++ codes ": [" ++ drop 1 objects ++ codes "\n  ]"

abbrev pub json_arrays : (prefixes keys customers : List ℕ) → List ℕ
json_arrays prefixes keys customers =
    json_array (codes "  \"roas\"") prefixes ++ json_array (codes ",\n  \"routerKeys\"") keys
    ++ json_array (codes ",\n  \"aspas\"") customers ++ codes "\n}\n"

-- When it was made; the prefixes and the keys of all locators, those of a locator after those of the one before; and
-- the customers, each once with its providers under all locators.
abbrev pub json_text : List PayloadParts → List AspaParts → DateTime → List ℕ
json_text all customers made =
    json_metadata made (vrp_count all) (key_count all) (length customers)
    ++ json_arrays (flat_map json_vrps all) (flat_map json_keys all) (flat_map json_vap customers)
