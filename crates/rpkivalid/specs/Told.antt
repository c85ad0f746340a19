-- What is said of a file: where it is rejected, and what lists it.
use Rattle.std.specs.Prelude.{◌||◌, ℕ, Bool, true, false, List, [], ◌∷◌, ◌++◌, codes, Option, Some, None, nat_eq}
use Rattle.std.specs.Prelude.{if◌then◌else◌}
use Rattle.std.specs.List.{ends_with, flat_map}
use Rattle.rpki_text.specs.RsyncText.{parent_of, same_uri, uri_of}
use Rattle.rpki_validation.specs.declared.outcome.Rejection.{Rejection}
use Rattle.rpki_validation.specs.declared.reason.Reason.{Reason}
use Rattle.rpki_validation.specs.declared.reason.Reason.TheVariants.{MissingAnchor, NoRepository, NoManifest, Missing}
use Rattle.rpki_validation.specs.declared.reason.Reason.TheVariants.{NoList, MissingFile, OtherFile, LongUri}
use Rattle.rpki_validation.specs.declared.reason.Reason.TheVariants.{MalformedCert, Malformed, Invalid}
use Rattle.rpkivalid.specs.declared.walked.Walk.{Walk}
use Rattle.rpkivalid.specs.declared.walked.Walk.TheVariants.{Found, NoAnchor}
use Rattle.rpkivalid.specs.Reasons.{reason_text}

-- a line of a locator: its name, and what is said
abbrev pub line : List ℕ → List ℕ → List ℕ
line name said = name ++ (codes ": " ++ (said ++ 10 ∷ []))

-- the text; or the other where there is none
abbrev pub or_else : List ℕ → List ℕ → List ℕ
or_else [] other = other
or_else (c ∷ cs) other = c ∷ cs

-- ---- what is rejected

-- one URI, in any case of the scheme and the authority
abbrev pub is_same : List ℕ → List ℕ → Bool
is_same uri other = same_uri (uri_of uri) (uri_of other)

abbrev pub is_at : List ℕ → Option (List ℕ) → Bool
is_at uri None = false
is_at uri (Some place) = is_same uri place

-- in one folder
abbrev pub is_same_folder : Option (List ℕ) → Option (List ℕ) → Bool
is_same_folder None other = false
is_same_folder (Some folder) None = false
is_same_folder (Some folder) (Some other) = is_same folder other

abbrev pub is_beside : List ℕ → List ℕ → Bool
is_beside uri other = is_same_folder (parent_of uri) (parent_of other)

abbrev pub is_beside_place : List ℕ → Option (List ℕ) → Bool
is_beside_place uri None = false
is_beside_place uri (Some place) = is_beside uri place

-- the file is rejected; or all that an authority publishes, whose manifest is in the folder of the file
abbrev pub concerns : List ℕ → Rejection → Bool
concerns uri r = if r.is_point then is_beside_place uri r.uri else is_at uri r.uri

-- the URI of what is rejected
abbrev pub place_text : Option (List ℕ) → List ℕ
place_text None = codes "an authority"
place_text (Some uri) = uri

abbrev pub word_of : Bool → List ℕ
word_of true = codes ": publication point rejected: "
word_of false = codes ": rejected: "

abbrev pub rejected_line : List ℕ → Rejection → List ℕ
rejected_line name r =
    name ++ (codes ": " ++ (place_text r.uri ++ (word_of r.is_point ++ (reason_text r.reason ++ 10 ∷ []))))

abbrev pub rejection_line : List ℕ → List ℕ → Rejection → List ℕ
rejection_line name uri r = if concerns uri r then rejected_line name r else []

abbrev pub rejections_text : List ℕ → List ℕ → List Rejection → List ℕ
rejections_text name uri rejections = flat_map (rejection_line name uri) rejections

-- ---- what lists the file: what an authority publishes is rejected for want of it, where it is not there

abbrev pub listed_line : List ℕ → Option (List ℕ) → List ℕ
listed_line name place = name ++ (codes ": listed by " ++ (place_text place ++ 10 ∷ []))

abbrev pub manifest_line : List ℕ → List ℕ
manifest_line name = name ++ codes ": the manifest of an authority\n"

abbrev pub wanted_line : List ℕ → List ℕ → Option (List ℕ) → Reason → List ℕ
wanted_line name uri place (MissingFile missing) = if is_same uri missing then listed_line name place else []
wanted_line name uri place Missing = if is_at uri place then manifest_line name else []
wanted_line name uri place MissingAnchor = []
wanted_line name uri place NoRepository = []
wanted_line name uri place NoManifest = []
wanted_line name uri place NoList = []
wanted_line name uri place (OtherFile other) = []
wanted_line name uri place LongUri = []
wanted_line name uri place (MalformedCert e) = []
wanted_line name uri place (Malformed e) = []
wanted_line name uri place (Invalid e) = []

abbrev pub listing_line : List ℕ → List ℕ → Rejection → List ℕ
listing_line name uri r = wanted_line name uri r.uri r.reason

abbrev pub listings_text : List ℕ → List ℕ → List Rejection → List ℕ
listings_text name uri rejections = flat_map (listing_line name uri) rejections

-- without the file there is no trust anchor; or by what is rejected
abbrev pub needs_text : List ℕ → List ℕ → Walk → List ℕ
needs_text name uri (NoAnchor reason) = name ++ codes ": the certificate of the trust anchor\n"
needs_text name uri (Found o) = listings_text name uri o.rejections.items

-- ---- the whole: by what is found, and by what is found where the file is not there

-- Files are looked at that are of a kind that counts by their names (RFC 6481 2.2, draft-ietf-sidrops-aspa-profile).
abbrev pub has_end : List ℕ → List ℕ → Bool
has_end uri end = ends_with nat_eq uri end

abbrev pub is_looked_at : List ℕ → Bool
is_looked_at uri =
    has_end uri (codes ".roa") || (has_end uri (codes ".asa") || (has_end uri (codes ".cer")
    || (has_end uri (codes ".crl") || has_end uri (codes ".mft"))))

abbrev pub counted_word : Bool → List ℕ
counted_word true = codes "counts"
counted_word false = codes "not looked at"

-- a file that is listed, and not rejected
abbrev pub counted_text : List ℕ → List ℕ → (listings : List ℕ) → List ℕ
counted_text name uri [] = []
counted_text name uri (c ∷ cs) = line name (counted_word (is_looked_at uri))

abbrev pub verdict_text : List ℕ → List ℕ → (rejections listings : List ℕ) → List ℕ
verdict_text name uri rejections listings =
    or_else rejections (counted_text name uri listings)
    ++ or_else listings (line name (codes "listed by no manifest that counts"))

abbrev pub anchor_line : List ℕ → Reason → List ℕ
anchor_line name reason = name ++ (codes ": no trust anchor: " ++ (reason_text reason ++ 10 ∷ []))

abbrev pub file_text : List ℕ → List ℕ → Walk → Walk → List ℕ
file_text name uri (NoAnchor reason) left = anchor_line name reason
file_text name uri (Found o) left =
    verdict_text name uri (rejections_text name uri o.rejections.items) (needs_text name uri left)

-- there is a trust anchor
abbrev pub is_found : Walk → Bool
is_found (Found o) = true
is_found (NoAnchor reason) = false
