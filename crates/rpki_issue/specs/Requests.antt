-- Requests that are to be signed, and that are signed (RFC 2986 4, RFC 6487 6).
use Rattle.std.specs.Prelude.{◌≡◌, ◌<◌, ◌^◌, ℕ, Bool, true, false, List, [], ◌∷◌, ◌++◌, length, Option, Some, None}
use Rattle.std.specs.Prelude.{option_map}
use Rattle.rpki_der.specs.Prelude.{sequence, set, oid, tlv}
use Rattle.rpki_time.specs.Serial.{serial_octets}
use Rattle.rpki.specs.Prelude.{SpellsNameOctets}
use Rattle.rpki.specs.ExtensionValue.{ExtensionParts}
use Rattle.rpki.specs.Provider.{Checkers}
use Rattle.rpki.specs.PublicKey.{key_octets, SpellsKey}
use Rattle.rpki_x509.specs.Tag.{zero_tag}
use Rattle.rpki_cert.specs.declared.extension.key_usage.KeyUsage.{KeyUsage}
use Rattle.rpki_cert.specs.declared.extension.key_usage.KeyUsage.TheVariants.{Ca}
use Rattle.rpki_request.specs.Request.{RepositoryParts, InfoParts, fields_of, request_info, extension_request}
use Rattle.rpki_request.specs.Request.{RequestParts, request_parts, request, IsOwnSignature}
use Rattle.rpki_issue.specs.declared.csr_written.CsrBuilder.{CsrBuilder}
use Rattle.rpki_issue.specs.declared.error.IssueError.{IssueError}
use Rattle.rpki_issue.specs.declared.error.IssueError.TheVariants.{Uri, Period, Doubled, Resources, TooLong}
use Rattle.rpki_issue.specs.declared.error.IssueError.TheVariants.{Rule, ContentType, Certificate, BadSignature}
use Rattle.rpki_issue.specs.declared.error.IssueError.TheVariants.{OutOfMemory}
use Rattle.rpki_issue.specs.declared.kind.Repository.{Repository}
use Rattle.rpki_issue.specs.declared.signer.SigningError.{SigningError}
use Rattle.rpki_issue.specs.Contents.{CanPublish, notification_of}
use Rattle.rpki_issue.specs.Extensions.{extensions_listed}
use Rattle.rpki_issue.specs.Rows.{constraints_extension, usage_extension, repository_extension}
use Rattle.rpki_issue.specs.Signers.{IsSignerRefusal}
use Rattle.rpki_issue.specs.Signing.{signed_parts, AreSigned}

-- ---- what is written

-- the use of an authority's key, where it is asked for
abbrev pub usage_part : Bool → List ExtensionParts
usage_part true = usage_extension Ca ∷ []
usage_part false = []

-- the extensions that are asked for, in the order in which they are written (RFC 6487 6.3)
abbrev pub asked_extensions : CsrBuilder → List ExtensionParts
asked_extensions x = constraints_extension ∷ (usage_part x.key_usage ++ repository_extension x.repository ∷ [])

-- the attribute of extensions of these octets, under its tag
abbrev pub attribute_contents : List ℕ → List ℕ
attribute_contents e = tlv oid false extension_request ++ tlv set true (tlv sequence true e)

abbrev pub attributes_octets : List ℕ → List ℕ
attributes_octets e = tlv zero_tag true (tlv sequence true (attribute_contents e))

-- a name, or a SEQUENCE of nothing
abbrev pub asker_octets : Option (List ℕ) → List ℕ
asker_octets None = tlv sequence true []
asker_octets (Some name) = name

abbrev pub asker_of : CsrBuilder → Option (List ℕ)
asker_of x = option_map (λ name. name.now) x.subject

-- version 1, whose number is 0; the subject, its key, and the attribute of extensions of these octets
abbrev pub info_contents : CsrBuilder → List ℕ → List ℕ
info_contents x e =
    serial_octets 0 ++ (asker_octets (asker_of x) ++ (key_octets x.key.now ++ attributes_octets e))

abbrev pub info_octets : CsrBuilder → List ℕ → List ℕ
info_octets x e = tlv sequence true (info_contents x e)

-- a length announces the contents
abbrev pub IsShortInfo : CsrBuilder → List ℕ → Type 0
IsShortInfo x e = length (info_contents x e) < 2 ^ 32

-- what is written of the extensions that are asked for
abbrev pub asked_octets : CsrBuilder → List ℕ
asked_octets x = extensions_listed (asked_extensions x)

-- ---- what is read of it

abbrev pub asked_usage : Bool → Option KeyUsage
asked_usage true = Some Ca
asked_usage false = None

abbrev pub repository_planned : Repository → RepositoryParts
repository_planned r = record {
  base = r.base.now;
  manifest = r.manifest.now;
  notification = notification_of r;
}

abbrev pub info_planned : CsrBuilder → InfoParts
info_planned x = record {
  subject = asker_of x;
  key = x.key.now;
  asked = record { usage = asked_usage x.key_usage; repository = repository_planned x.repository };
}

-- the name, where there is one, is read as itself
abbrev pub IsAsker : Option (List ℕ) → Type 0
IsAsker None = Unit {0}
IsAsker (Some name) = SpellsNameOctets name name

-- the subject and its key are read as what they are
pub record AreAskers (x : CsrBuilder) : Type 0 where
  pub subject : IsAsker (asker_of x)
  pub key : SpellsKey x.key.now (key_octets x.key.now)

-- ---- what is to be signed, as octets and as what they are

pub record RequestToSign : Type 0 where
  pub octets : List ℕ
  pub info : InfoParts

-- of these values: the octets are those that are written of them, and are read as them
pub record IsRequestToSign (x : CsrBuilder) (made : RequestToSign) : Type 0 where
  pub octets : made.octets ≡ info_octets x (asked_octets x)
  pub info : made.info ≡ info_planned x
  pub read_back : request_info.spells (fields_of made.info) made.octets

-- a URI that no reader accepts, or more octets than a length announces
abbrev pub IsRequestPlanRefused : CsrBuilder → IssueError → Type 0
IsRequestPlanRefused x Uri = CanPublish x.repository → ⊥
IsRequestPlanRefused x Period = ⊥
IsRequestPlanRefused x Doubled = ⊥
IsRequestPlanRefused x Resources = ⊥
IsRequestPlanRefused x TooLong = IsShortInfo x (asked_octets x) → ⊥
IsRequestPlanRefused x (Rule r) = ⊥
IsRequestPlanRefused x ContentType = ⊥
IsRequestPlanRefused x Certificate = ⊥
IsRequestPlanRefused x BadSignature = ⊥
IsRequestPlanRefused x OutOfMemory = Unit {0}

-- ---- a request

abbrev pub request_made : RequestToSign → List ℕ → RequestParts
request_made made value = request_parts (signed_parts made.octets value) made.info

-- The request of this signature, as it is written, is read as the request that was to be signed, and the key that it
-- names has signed it.
pub record IsMadeRequest (by : Checkers) (made : RequestToSign) (value whole : List ℕ) : Type 0 where
  pub signed : AreSigned by made.info.key made.octets value whole
  pub read_back : request.spells (request_made made value) whole
  pub own : IsOwnSignature by (request_made made value)

-- of some signature, which a signer made; the signer's error, or what the second step refuses of some signature
abbrev pub IsSignedRequest : Checkers → RequestToSign → List ℕ → Type 0
IsSignedRequest by made whole = (value : List ℕ) × IsMadeRequest by made value whole

abbrev pub IsRequestSignerRefusal : {E : Type 0} → Checkers → RequestToSign → SigningError E → Type 0
IsRequestSignerRefusal by made = IsSignerRefusal by made.info.key made.octets
