-- Counts as metrics, in the text format of OpenMetrics 1.0.
use Rattle.std.specs.Prelude.{◌==◌, ◌||◌, ◌++◌, ℕ, Bool, List, [], ◌∷◌, Option, Some, None, codes, decimal, length}
use Rattle.std.specs.Prelude.{if◌then◌else◌, nat_lt}
use Rattle.std.specs.List.{flat_map}
use Rattle.jiff.specs.Types.{DateTime}
use Rattle.rpki_payloads.specs.declared.tally.Reasons.{Reasons}
use Rattle.rpki_payloads.specs.declared.tally.Tally.{Tally}
use Rattle.rpki_payloads.specs.declared.timed.TimedVrp.{TimedVrp}
use Rattle.rpki_payloads.specs.Made.{seconds_text}
use Rattle.rpki_payloads.specs.Payloads.{PayloadParts}

-- an octet of the value of a label: a line feed as `\n`, a quotation mark and a backslash after a backslash
abbrev pub escaped : ℕ → List ℕ
escaped octet =
    if octet == 10 then 92 ∷ 110 ∷ []
    else if octet == 34 || octet == 92 then 92 ∷ octet ∷ []
    else octet ∷ []

-- a sample of a family, with the name of a locator, and more labels: `family{ta="name",type="x"} 7`
unfoldable pub sample : List ℕ → List ℕ → List ℕ → ℕ → List ℕ
sample family name more n =
    family ++ codes "{ta=\"" ++ flat_map escaped name ++ codes "\"" ++ more ++ codes "} " ++ decimal n ++ 10 ∷ []

abbrev pub bit : Bool → ℕ
bit b = if b then 1 else 0

-- whether the locator has a trust anchor
unfoldable pub anchor_in : List ℕ → Option Tally → List ℕ
anchor_in name None = []
anchor_in name (Some t) = sample (codes "rpkivalid_trust_anchor") name [] (bit t.is_anchored)

abbrev pub anchor_samples : PayloadParts → List ℕ
anchor_samples p = anchor_in p.name p.tally

-- how many payloads there are of each kind
unfoldable pub kind_samples : List ℕ → (origins providers keys : ℕ) → List ℕ
kind_samples name origins providers keys =
    sample (codes "rpkivalid_payloads") name (codes ",type=\"origin\"") origins
    ++ sample (codes "rpkivalid_payloads") name (codes ",type=\"provider\"") providers
    ++ sample (codes "rpkivalid_payloads") name (codes ",type=\"router_key\"") keys

abbrev pub payload_samples : PayloadParts → List ℕ
payload_samples p = kind_samples p.name (length p.vrps) (length p.pairs) (length p.keys)

-- the earliest of these ends
abbrev pub earlier : ℕ → Option ℕ → ℕ
earlier n None = n
earlier n (Some m) = if nat_lt n m then n else m

abbrev pub first_end : Option ℕ → List TimedVrp → Option ℕ
first_end first [] = first
first_end first (t ∷ ts) = first_end (Some (earlier t.expires first)) ts

-- the first second in which a payload ends, where there is any
unfoldable pub end_in : List ℕ → Option ℕ → List ℕ
end_in name None = []
end_in name (Some n) = sample (codes "rpkivalid_first_end_seconds") name [] n

abbrev pub end_samples : PayloadParts → List ℕ
end_samples p = end_in p.name (first_end None p.timed)

-- how many publication points and objects are rejected
unfoldable pub tally_samples : List ℕ → Tally → List ℕ
tally_samples name t =
    sample (codes "rpkivalid_rejected") name (codes ",type=\"point\"") t.points
    ++ sample (codes "rpkivalid_rejected") name (codes ",type=\"object\"") t.objects

abbrev pub rejected_in : List ℕ → Option Tally → List ℕ
rejected_in name None = []
rejected_in name (Some t) = tally_samples name t

abbrev pub rejected_samples : PayloadParts → List ℕ
rejected_samples p = rejected_in p.name p.tally

-- for which reasons they are
abbrev pub reason_sample : List ℕ → (reason : List ℕ) → ℕ → List ℕ
reason_sample name reason n = sample (codes "rpkivalid_rejected_reasons") name reason n

unfoldable pub file_samples : List ℕ → Reasons → List ℕ
file_samples name r =
    reason_sample name (codes ",reason=\"missing\"") r.missing
    ++ reason_sample name (codes ",reason=\"digest\"") r.digest
    ++ reason_sample name (codes ",reason=\"malformed\"") r.malformed

unfoldable pub path_samples : List ℕ → Reasons → List ℕ
path_samples name r =
    reason_sample name (codes ",reason=\"stale\"") r.stale
    ++ reason_sample name (codes ",reason=\"expired\"") r.expired
    ++ reason_sample name (codes ",reason=\"revoked\"") r.revoked
    ++ reason_sample name (codes ",reason=\"invalid\"") r.invalid

unfoldable pub reason_samples : List ℕ → Reasons → List ℕ
reason_samples name r = file_samples name r ++ path_samples name r

abbrev pub reasons_in : List ℕ → Option Tally → List ℕ
reasons_in name None = []
reasons_in name (Some t) = reason_samples name t.reasons

abbrev pub counted_samples : PayloadParts → List ℕ
counted_samples p = reasons_in p.name p.tally

-- ---- families, each under its type and what it says

abbrev pub anchor_titles : List ℕ
anchor_titles =
    codes "# TYPE rpkivalid_trust_anchor gauge\n# HELP rpkivalid_trust_anchor Whether the locator has a trust anchor.\n"

abbrev pub payload_titles : List ℕ
payload_titles = codes "# TYPE rpkivalid_payloads gauge\n# HELP rpkivalid_payloads How many payloads are written.\n"

abbrev pub rejected_titles : List ℕ
rejected_titles =
    codes "# TYPE rpkivalid_rejected gauge\n# HELP rpkivalid_rejected How many points and objects are rejected.\n"

abbrev pub reason_titles : List ℕ
reason_titles =
    codes "# TYPE rpkivalid_rejected_reasons gauge\n"
    ++ codes "# HELP rpkivalid_rejected_reasons How many points and objects are rejected, by reason.\n"

abbrev pub end_titles : List ℕ
end_titles =
    codes "# TYPE rpkivalid_first_end_seconds gauge\n# UNIT rpkivalid_first_end_seconds seconds\n"
    ++ codes "# HELP rpkivalid_first_end_seconds When the first route origin ends, since 1970.\n"

unfoldable pub anchor_family : List PayloadParts → List ℕ
anchor_family all = anchor_titles ++ flat_map anchor_samples all

unfoldable pub payload_family : List PayloadParts → List ℕ
payload_family all = payload_titles ++ flat_map payload_samples all

unfoldable pub rejected_family : List PayloadParts → List ℕ
rejected_family all = rejected_titles ++ flat_map rejected_samples all

unfoldable pub reason_family : List PayloadParts → List ℕ
reason_family all = reason_titles ++ flat_map counted_samples all

unfoldable pub rejection_families : List PayloadParts → List ℕ
rejection_families all = rejected_family all ++ reason_family all

unfoldable pub end_family : List PayloadParts → List ℕ
end_family all = end_titles ++ flat_map end_samples all

-- ---- the run: of which version, when the list was made, and how many seconds it took until then

abbrev pub version_titles : List ℕ
version_titles = codes "# TYPE rpkivalid info\n# HELP rpkivalid The program.\n"

unfoldable pub version_family : (version : List ℕ) → List ℕ
version_family version = version_titles ++ codes "rpkivalid_info{version=\"" ++ version ++ codes "\"} 1\n"

abbrev pub made_titles : List ℕ
made_titles =
    codes "# TYPE rpkivalid_made_seconds gauge\n# UNIT rpkivalid_made_seconds seconds\n"
    ++ codes "# HELP rpkivalid_made_seconds When the list was made, since 1970.\nrpkivalid_made_seconds "

unfoldable pub made_family : DateTime → List ℕ
made_family made = made_titles ++ seconds_text made ++ 10 ∷ []

abbrev pub duration_titles : List ℕ
duration_titles =
    codes "# TYPE rpkivalid_duration_seconds gauge\n# UNIT rpkivalid_duration_seconds seconds\n"
    ++ codes "# HELP rpkivalid_duration_seconds How long the run took.\nrpkivalid_duration_seconds "

unfoldable pub duration_family : ℕ → List ℕ
duration_family seconds = duration_titles ++ decimal seconds ++ 10 ∷ []

unfoldable pub run_families : (version : List ℕ) → (made : DateTime) → (seconds : ℕ) → List ℕ
run_families version made seconds = version_family version ++ made_family made ++ duration_family seconds

unfoldable pub locator_families : List PayloadParts → List ℕ
locator_families all = anchor_family all ++ payload_family all ++ rejection_families all ++ end_family all

abbrev pub metrics_text : (version : List ℕ) → (made : DateTime) → (seconds : ℕ) → List PayloadParts → List ℕ
metrics_text version made seconds all =
    locator_families all ++ run_families version made seconds ++ codes "# EOF\n"
