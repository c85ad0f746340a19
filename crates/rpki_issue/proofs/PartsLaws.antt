-- Lists of extensions that are written are read back, each identifier once.
use Rattle.std.proofs.Common.{◌≢◌, ℕ, List, [], ◌∷◌, ◌++◌, refl, IsTrue, Bor, Option}
use Rattle.std.proofs.Common.{Some, None, option_map}
use Rattle.rpki_der.specs.Prelude.{SpellsEach}
use Rattle.rpki_der.specs.Listed.{EachHas}
use Rattle.rpki_der.specs.OptionalPart.{OfPart}
use Rattle.rpki.specs.ExtensionValue.{ExtensionParts, CanBeWritten, SpellsExtension, written_extension}
use Rattle.rpki.proofs.ExtensionLaws.{written-read}
use Rattle.rpki_resources.specs.declared.resources.IpResources.{IpResources}
use Rattle.rpki_resources.specs.declared.resources.AsResources.{AsResources}
use Rattle.rpki_resources.specs.EncodedResources.{ip_octets, as_identifiers_octets}
use Rattle.rpki_cert.specs.Cert.{AreExtensions, are_unique}
use Rattle.rpki_issue.specs.declared.kind.CertKind.{CertKind}
use Rattle.rpki_issue.specs.declared.kind.CertKind.TheVariants.{Anchor, Authority, Object, Detached, Router}
use Rattle.rpki_issue.specs.declared.kind.CertExtensions.{CertExtensions}
use Rattle.rpki_issue.specs.Extensions.{constraints_part, authority_part, purposes_part, points_part, issuers_part}
use Rattle.rpki_issue.specs.Extensions.{access_part, addresses_part, numbers_part, own_parts, pointing_parts}
use Rattle.rpki_issue.specs.Extensions.{last_parts, extensions_of, extensions_listed, usage_of, practices_of}
use Rattle.rpki_issue.specs.Extensions.{addresses_of, numbers_of, HasUris, AreUris, CanHoldIp, CanHoldAs, CanHold}
use Rattle.rpki_issue.specs.Rows.{subject_extension, usage_extension, policies_extension}
use Rattle.rpki_issue.specs.Issuing.{AreKeys, HasIssuerKey}
use Rattle.rpki_issue.proofs.RowsLaws.{constraints-legal, subject-legal, authority-legal, usage-legal, purposes-legal}
use Rattle.rpki_issue.proofs.RowsLaws.{points-legal, issuers-legal, repository-legal, object-legal, policies-legal}
use Rattle.rpki_issue.proofs.RowsLaws.{addresses-legal, numbers-legal}

-- ---- lists

pub both-have : (xs ys : List ExtensionParts) → EachHas CanBeWritten xs → EachHas CanBeWritten ys
    → EachHas CanBeWritten (xs ++ ys)
both-have [] ys h k = k
both-have (x ∷ xs) ys h k = (h.0, both-have xs ys h.1 k)

pub each-read : (xs : List ExtensionParts) → EachHas CanBeWritten xs
    → SpellsEach SpellsExtension xs (extensions_listed xs)
each-read [] h = refl
each-read (x ∷ xs) h = (
  extensions_listed xs,
  record { front = written_extension x; parts = refl; spelled = written-read x h.0 },
  each-read xs h.1,
)

are-extensions : (xs : List ExtensionParts) → xs ≢ [] → EachHas CanBeWritten xs → IsTrue (are_unique xs)
    → AreExtensions xs (extensions_listed xs)
are-extensions xs some h unique = record { some = record { some = some; each = each-read xs h }; unique = unique }

-- ---- those of a certificate

-- the list, of these parts
abbrev pub list_of : CertKind → List ℕ → Option (List ℕ) → Option (List ℕ) → Option (List ℕ) → List ExtensionParts
list_of kind key practices ip asn =
    constraints_part kind ++ subject_extension key ∷ [] ++ authority_part kind ++ usage_extension (usage_of kind) ∷ []
    ++ purposes_part kind
    ++ (points_part kind ++ issuers_part kind ++ access_part kind ++ policies_extension practices ∷ [])
    ++ (addresses_part ip ++ numbers_part asn)

all-unique : (kind : CertKind) (key : List ℕ) (practices ip asn : Option (List ℕ))
    → IsTrue (are_unique (list_of kind key practices ip asn))
all-unique (Anchor r) key practices None None = refl
all-unique (Anchor r) key practices None (Some a) = refl
all-unique (Anchor r) key practices (Some i) None = refl
all-unique (Anchor r) key practices (Some i) (Some a) = refl
all-unique (Authority s r) key practices None None = refl
all-unique (Authority s r) key practices None (Some a) = refl
all-unique (Authority s r) key practices (Some i) None = refl
all-unique (Authority s r) key practices (Some i) (Some a) = refl
all-unique (Object s uri) key practices None None = refl
all-unique (Object s uri) key practices None (Some a) = refl
all-unique (Object s uri) key practices (Some i) None = refl
all-unique (Object s uri) key practices (Some i) (Some a) = refl
all-unique (Detached s) key practices None None = refl
all-unique (Detached s) key practices None (Some a) = refl
all-unique (Detached s) key practices (Some i) None = refl
all-unique (Detached s) key practices (Some i) (Some a) = refl
all-unique (Router s) key practices None None = refl
all-unique (Router s) key practices None (Some a) = refl
all-unique (Router s) key practices (Some i) None = refl
all-unique (Router s) key practices (Some i) (Some a) = refl

all-some : (kind : CertKind) (key : List ℕ) (practices ip asn : Option (List ℕ))
    → list_of kind key practices ip asn ≢ []
all-some (Anchor r) key practices ip asn = λ e. absurd (cc)
all-some (Authority s r) key practices ip asn = λ e. absurd (cc)
all-some (Object s uri) key practices ip asn = λ e. absurd (cc)
all-some (Detached s) key practices ip asn = λ e. absurd (cc)
all-some (Router s) key practices ip asn = λ e. absurd (cc)

pub extensions-read : (x : CertExtensions) → EachHas CanBeWritten (own_parts x)
    → EachHas CanBeWritten (pointing_parts x) → EachHas CanBeWritten (last_parts x)
    → AreExtensions (extensions_of x) (extensions_listed (extensions_of x))
extensions-read x own pointing last =
    are-extensions (extensions_of x)
    (all-some x.kind x.subject_key (practices_of x) (addresses_of x) (numbers_of x))
    (both-have (own_parts x ++ pointing_parts x) (last_parts x)
    (both-have (own_parts x) (pointing_parts x) own pointing) last)
    (all-unique x.kind x.subject_key (practices_of x) (addresses_of x) (numbers_of x))

-- ---- of values that can be written

constraints-have : (kind : CertKind) → EachHas CanBeWritten (constraints_part kind)
constraints-have (Anchor r) = (constraints-legal, tt)
constraints-have (Authority i r) = (constraints-legal, tt)
constraints-have (Object i uri) = tt
constraints-have (Detached i) = tt
constraints-have (Router i) = tt

authority-have : (kind : CertKind) → HasIssuerKey kind → EachHas CanBeWritten (authority_part kind)
authority-have (Anchor r) k = tt
authority-have (Authority i r) k = (authority-legal i.key k, tt)
authority-have (Object i uri) k = (authority-legal i.key k, tt)
authority-have (Detached i) k = (authority-legal i.key k, tt)
authority-have (Router i) k = (authority-legal i.key k, tt)

purposes-have : (kind : CertKind) → EachHas CanBeWritten (purposes_part kind)
purposes-have (Anchor r) = tt
purposes-have (Authority i r) = tt
purposes-have (Object i uri) = tt
purposes-have (Detached i) = tt
purposes-have (Router i) = (purposes-legal, tt)

points-have : (kind : CertKind) → HasUris kind → EachHas CanBeWritten (points_part kind)
points-have (Anchor r) u = tt
points-have (Authority i r) u = (points-legal i.list.now u.0.0, tt)
points-have (Object i uri) u = (points-legal i.list.now u.0.0, tt)
points-have (Detached i) u = (points-legal i.list.now u.0, tt)
points-have (Router i) u = (points-legal i.list.now u.0, tt)

issuers-have : (kind : CertKind) → HasUris kind → EachHas CanBeWritten (issuers_part kind)
issuers-have (Anchor r) u = tt
issuers-have (Authority i r) u = (issuers-legal i.certificate.now u.0.1, tt)
issuers-have (Object i uri) u = (issuers-legal i.certificate.now u.0.1, tt)
issuers-have (Detached i) u = (issuers-legal i.certificate.now u.1, tt)
issuers-have (Router i) u = (issuers-legal i.certificate.now u.1, tt)

access-have : (kind : CertKind) → HasUris kind → EachHas CanBeWritten (access_part kind)
access-have (Anchor r) u = (repository-legal r u, tt)
access-have (Authority i r) u = (repository-legal r u.1, tt)
access-have (Object i uri) u = (object-legal uri.now u.1, tt)
access-have (Detached i) u = tt
access-have (Router i) u = tt

addresses-have : (o : Option (Bor IpResources)) → OfPart CanHoldIp (option_map (λ r. r.now) o)
    → EachHas CanBeWritten (addresses_part (option_map (λ r. ip_octets r.now) o))
addresses-have None h = tt
addresses-have (Some r) h = (addresses-legal (ip_octets r.now) h.few, tt)

numbers-have : (o : Option (Bor AsResources)) → OfPart CanHoldAs (option_map (λ r. r.now) o)
    → EachHas CanBeWritten (numbers_part (option_map (λ r. as_identifiers_octets r.now) o))
numbers-have None h = tt
numbers-have (Some r) h = (numbers-legal (as_identifiers_octets r.now) h.few, tt)

pub all-read : (e : CertExtensions) → AreKeys e → AreUris e → CanHold e
    → AreExtensions (extensions_of e) (extensions_listed (extensions_of e))
all-read e keys uris can =
    extensions-read e
    (both-have _ (purposes_part e.kind)
    (both-have _ (usage_extension (usage_of e.kind) ∷ [])
    (both-have _ (authority_part e.kind)
    (both-have (constraints_part e.kind) (subject_extension e.subject_key ∷ []) (constraints-have e.kind)
    (subject-legal e.subject_key keys.0, tt))
    (authority-have e.kind keys.1))
    (usage-legal (usage_of e.kind), tt))
    (purposes-have e.kind))
    (both-have _ (policies_extension (practices_of e) ∷ [])
    (both-have _ (access_part e.kind)
    (both-have (points_part e.kind) (issuers_part e.kind) (points-have e.kind uris.kind)
    (issuers-have e.kind uris.kind))
    (access-have e.kind uris.kind))
    (policies-legal (practices_of e) uris.practices, tt))
    (both-have (addresses_part (addresses_of e)) (numbers_part (numbers_of e)) (addresses-have e.ip can.addresses)
    (numbers-have e.asn can.numbers))
