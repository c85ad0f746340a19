-- The forms with a line a payload. Those of csv and BIRD are prefixes that may be announced alone.
use Rattle.std.specs.Prelude.{ℕ, Bool, true, false, not, List, [], ◌∷◌, ◌++◌, if◌then◌else◌, codes, decimal, drop}
use Rattle.std.specs.List.{flat_map}
use Rattle.std.specs.Net.Addr.{is_ipv4}
use Rattle.std.specs.Net.Text.{ip_text}
use Rattle.rpki_contents.specs.Aspa.{AspaParts}
use Rattle.rpki_resources.specs.Text.{as_number_text, prefix_text}
use Rattle.rpki_payloads.specs.declared.timed.TimedVrp.{TimedVrp}
use Rattle.rpki_payloads.specs.declared.vrp.Vrp.{Vrp}
use Rattle.rpki_payloads.specs.Payloads.{PayloadParts}
use Rattle.rpki_payloads.specs.Quoted.{quoted}

-- its prefix: `10.0.0.0/8`
abbrev pub vrp_prefix : Vrp → List ℕ
vrp_prefix v = prefix_text (ip_text v.addr) v.len

-- ---- csv, as of Routinator: `AS64496,10.0.0.0/8,24,example`, under a line of titles; the name is a field (RFC 4180)

abbrev pub csv_line : List ℕ → Vrp → List ℕ
csv_line name v =
    as_number_text v.as_id ++ codes "," ++ vrp_prefix v ++ codes "," ++ decimal v.max_length ++ codes ","
    ++ quoted name ++ 10 ∷ []

-- those under a locator
abbrev pub csv_lines : PayloadParts → List ℕ
csv_lines p = flat_map (csv_line p.name) p.vrps

abbrev pub csv_text : List PayloadParts → List ℕ
csv_text all = codes "ASN,IP Prefix,Max Length,Trust Anchor\n" ++ flat_map csv_lines all

-- ---- csv, as of rpki-client: `AS64496,10.0.0.0/8,24,example,1798761599`, with the second that is the end

abbrev pub client_line : List ℕ → TimedVrp → List ℕ
client_line name t =
    as_number_text t.vrp.as_id ++ codes "," ++ vrp_prefix t.vrp ++ codes "," ++ decimal t.vrp.max_length ++ codes ","
    ++ quoted name ++ codes "," ++ decimal t.expires ++ 10 ∷ []

-- those under a locator
abbrev pub client_lines : PayloadParts → List ℕ
client_lines p = flat_map (client_line p.name) p.timed

abbrev pub client_text : List PayloadParts → List ℕ
client_text all = codes "ASN,IP Prefix,Max Length,Trust Anchor,Expires\n" ++ flat_map client_lines all

-- ---- OpenBGPD, bgpd.conf(5): `10.0.0.0/8 maxlen 24 source-as 64496 expires 1798761599` in a set, with the second that
-- is the end

unfoldable pub openbgpd_length : Vrp → List ℕ
openbgpd_length v = codes " maxlen " ++ decimal v.max_length

unfoldable pub openbgpd_number : Vrp → List ℕ
openbgpd_number v = codes " source-as " ++ decimal v.as_id

unfoldable pub openbgpd_end : ℕ → List ℕ
openbgpd_end n = codes " expires " ++ decimal n ++ 10 ∷ []

abbrev pub openbgpd_line : TimedVrp → List ℕ
openbgpd_line t =
    codes "    " ++ vrp_prefix t.vrp ++ openbgpd_length t.vrp ++ openbgpd_number t.vrp ++ openbgpd_end t.expires

abbrev pub openbgpd_origins : List TimedVrp → List ℕ
openbgpd_origins all = codes "roa-set {\n" ++ flat_map openbgpd_line all ++ codes "}\n"

-- `customer-as 64496 provider-as { 64499, 64501 }` in a set

unfoldable pub openbgpd_provider : ℕ → List ℕ
openbgpd_provider n = codes ", " ++ decimal n

unfoldable pub openbgpd_customer : ℕ → List ℕ
openbgpd_customer n = codes "    customer-as " ++ decimal n ++ codes " provider-as { "

unfoldable pub openbgpd_vap : AspaParts → List ℕ
openbgpd_vap x = openbgpd_customer x.customer ++ drop 2 (flat_map openbgpd_provider x.providers) ++ codes " }\n"

abbrev pub openbgpd_set : List AspaParts → List ℕ
openbgpd_set customers = codes "aspa-set {\n" ++ flat_map openbgpd_vap customers ++ codes "}\n"

-- where there is a customer: versions that don't know such sets refuse any
abbrev pub openbgpd_customers : List AspaParts → List ℕ
openbgpd_customers [] = []
openbgpd_customers (x ∷ xs) = openbgpd_set (x ∷ xs)

abbrev pub openbgpd_text : List TimedVrp → List AspaParts → List ℕ
openbgpd_text all customers = openbgpd_origins all ++ openbgpd_customers customers

-- ---- BIRD 2: `route 10.0.0.0/8 max 24 as 64496;` of a protocol `static` for each family of addresses, each of which
-- fills a table of its own

abbrev pub bird_line : Vrp → List ℕ
bird_line v =
    codes "route " ++ vrp_prefix v ++ codes " max " ++ decimal v.max_length ++ codes " as " ++ decimal v.as_id
    ++ codes ";\n"

-- its addresses are of version 4, or of version 6
abbrev pub is_of_family : (is_v4 : Bool) → Vrp → Bool
is_of_family true v = is_ipv4 v.addr
is_of_family false v = not (is_ipv4 v.addr)

-- its line, if they are
abbrev pub bird_route : Bool → Vrp → List ℕ
bird_route is_v4 v = if is_of_family is_v4 v then bird_line v else []

abbrev pub bird_routes : Bool → List Vrp → List ℕ
bird_routes is_v4 vrps = flat_map (bird_route is_v4) vrps

abbrev pub bird_text : List Vrp → List ℕ
bird_text vrps =
    codes "roa4 table ROAS4;\nroa6 table ROAS6;\n\nprotocol static {\n    roa4 { table ROAS4; };\n"
    ++ bird_routes true vrps ++ codes "}\n\nprotocol static {\n    roa6 { table ROAS6; };\n" ++ bird_routes false vrps
    ++ codes "}\n"
