-- What attestations of route origins that are rejected say of a route, or of payloads: those that are, and those of a
-- point that is. Nothing of them is verified.
use Rattle.std.specs.Prelude.{◌≡◌, ◌⊎◌, ◌&&◌, ℕ, List, [], ◌∷◌, ◌++◌, codes, Option, Some, None, Bool, true, false}
use Rattle.std.specs.Prelude.{if◌then◌else◌, is_none, nat_eq}
use Rattle.std.specs.List.{ends_with, flat_map}
use Rattle.rpki_contents.specs.declared.route_origin.RouteOrigin.{RouteOrigin}
use Rattle.rpki_contents.specs.ListedFile.{ListedFile}
use Rattle.rpki_contents.specs.Manifest.{ManifestParts}
use Rattle.rpki_contents.specs.Roa.{AttestationParts}
use Rattle.rpki_contents.specs.RouteOrigin.{origins}
use Rattle.rpki_objects.specs.declared.strictness.Strictness.{Strictness}
use Rattle.rpki_objects.specs.TypedObject.{TypedParts, manifest_object, origin_object}
use Rattle.rpki_payloads.specs.declared.vrp.Vrp.{Vrp}
use Rattle.rpki_payloads.specs.Alone.{is_among}
use Rattle.rpki_payloads.specs.Route.{is_covered_by, payload_text}
use Rattle.rpki_payloads.specs.Vrp.{vrp_of}
use Rattle.rpki_text.specs.RsyncText.{join_refusal, joined, parent_of, uri_of}
use Rattle.rpki_validation.specs.declared.outcome.Rejection.{Rejection}
use Rattle.rpki_validation.specs.Finding.{IsNone}
use Rattle.rpkivalid.specs.declared.question.Question.{Question}
use Rattle.rpkivalid.specs.declared.question.Question.TheVariants.{Object, Origin, Alone}
use Rattle.rpkivalid.specs.declared.walked.Walk.{Walk}
use Rattle.rpkivalid.specs.declared.walked.Walk.TheVariants.{Found, NoAnchor}
use Rattle.rpkivalid.specs.Paths.{object_path}
use Rattle.rpkivalid.specs.Told.{rejected_line}

-- the octets are an attestation
abbrev pub IsAttestationIn : Strictness → List ℕ → TypedParts AttestationParts → Type 0
IsAttestationIn strictness octets x = (origin_object strictness).spells x octets

-- what the octets say as an attestation; nothing where they are none
abbrev pub SaysUnverified : Strictness → List ℕ → List RouteOrigin → Type 0
SaysUnverified strictness octets all =
    ((x : TypedParts AttestationParts) × IsAttestationIn strictness octets x × (all ≡ origins x.content))
    ⊎ (IsNone (IsAttestationIn strictness octets) × (all ≡ []))

abbrev pub SaysIn : Strictness → Option (List ℕ) → List RouteOrigin → Type 0
SaysIn strictness None all = all ≡ []
SaysIn strictness (Some octets) all = SaysUnverified strictness octets all

-- what the object at the URI says; nothing where there is none
abbrev pub SaysAt : (List ℕ → Option (List ℕ)) → List ℕ → Strictness → Option (List ℕ) → List RouteOrigin → Type 0
SaysAt files folder strictness None all = all ≡ []
SaysAt files folder strictness (Some uri) all = SaysIn strictness (files (object_path folder (uri_of uri))) all

-- ---- of a point that is rejected, what its files say

-- where a file of a manifest is, in the folder of the manifest, if it is an attestation by its name
abbrev pub attestation_uri : List ℕ → ListedFile → Option (List ℕ)
attestation_uri point file =
    if ends_with nat_eq file.0 (codes ".roa") && is_none (join_refusal point file.0) then Some (joined point file.0)
    else None

-- what these files say, in their order
abbrev pub SayFiles : (List ℕ → Option (List ℕ)) → List ℕ → Strictness → List ℕ → List ListedFile → List RouteOrigin
    → Type 0
SayFiles files folder strictness point [] all = all ≡ []
SayFiles files folder strictness point (file ∷ rest) all =
    (one : List RouteOrigin) × (more : List RouteOrigin)
    × SaysAt files folder strictness (attestation_uri point file) one
    × SayFiles files folder strictness point rest more × (all ≡ one ++ more)

abbrev pub IsManifestIn : Strictness → List ℕ → TypedParts ManifestParts → Type 0
IsManifestIn strictness octets x = (manifest_object strictness.attributes).spells x octets

-- what the files say that the octets list as a manifest; nothing where they are none
abbrev pub SayListed : (List ℕ → Option (List ℕ)) → List ℕ → Strictness → List ℕ → Option (List ℕ) → List RouteOrigin
    → Type 0
SayListed files folder strictness point None all = all ≡ []
SayListed files folder strictness point (Some octets) all =
    ((x : TypedParts ManifestParts) × IsManifestIn strictness octets x
    × SayFiles files folder strictness point x.content.files all)
    ⊎ (IsNone (IsManifestIn strictness octets) × (all ≡ []))

abbrev pub SayFrom : (List ℕ → Option (List ℕ)) → List ℕ → Strictness → List ℕ → Option (List ℕ) → List RouteOrigin
    → Type 0
SayFrom files folder strictness uri None all = all ≡ []
SayFrom files folder strictness uri (Some point) all =
    SayListed files folder strictness point (files (object_path folder (uri_of uri))) all

-- what the files say that the manifest at the URI lists
abbrev pub SaysPoint : (List ℕ → Option (List ℕ)) → List ℕ → Strictness → Option (List ℕ) → List RouteOrigin → Type 0
SaysPoint files folder strictness None all = all ≡ []
SaysPoint files folder strictness (Some uri) all = SayFrom files folder strictness uri (parent_of uri) all

-- ---- what is rejected

-- what a point says, or an object, that is rejected
abbrev pub SaysRejected : (List ℕ → Option (List ℕ)) → List ℕ → Strictness → Bool → Option (List ℕ) → List RouteOrigin
    → Type 0
SaysRejected files folder strictness true uri all = SaysPoint files folder strictness uri all
SaysRejected files folder strictness false uri all = SaysAt files folder strictness uri all

-- what is asked for: payloads that cover a route, or these
abbrev pub is_wanted : Question → Vrp → Bool
is_wanted (Object uri) v = false
is_wanted (Origin route) v = is_covered_by route v
is_wanted (Alone vrps) v = is_among v vrps.items

-- the payload that it would be, and why it isn't; nothing where it isn't asked for
abbrev pub refused_line : Question → List ℕ → Rejection → RouteOrigin → List ℕ
refused_line question name r o =
    if is_wanted question (vrp_of o) then payload_text (vrp_of o) ++ codes ": " ++ rejected_line name r else []

-- of all that is rejected
abbrev pub AreRefused : (List ℕ → Option (List ℕ)) → List ℕ → Strictness → Question → List ℕ → List Rejection → List ℕ
    → Type 0
AreRefused files folder strictness question name [] text = text ≡ []
AreRefused files folder strictness question name (r ∷ rs) text =
    (all : List RouteOrigin) × (more : List ℕ) × SaysRejected files folder strictness r.is_point r.uri all
    × AreRefused files folder strictness question name rs more
    × (text ≡ flat_map (refused_line question name r) all ++ more)

-- under a locator: nothing where it has no trust anchor
abbrev pub AreRefusedIn : (List ℕ → Option (List ℕ)) → List ℕ → Strictness → Question → List ℕ → Walk → List ℕ → Type 0
AreRefusedIn files folder strictness question name (NoAnchor reason) text = text ≡ []
AreRefusedIn files folder strictness question name (Found o) text =
    AreRefused files folder strictness question name o.rejections.items text
