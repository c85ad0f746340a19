-- Requests for the certificates of authorities: PKCS #10 (RFC 2986 4) in the profile of RFC 6487 6.
use Rattle.std.specs.Prelude.{◌≡◌, ◌⊎◌, ◌+◌, ℕ, Bool, true, false, List, ◌∷◌, [], length, map, Option, None, Some}
use Rattle.std.specs.Prelude.{codes}
use Rattle.std.specs.Option.{option_copied}
use Rattle.rpki_der.specs.declared.error.DecodeError.{DecodeError}
use Rattle.rpki_der.specs.declared.error.DecodeError.TheVariants.{OutOfMemory}
use Rattle.rpki_der.specs.Prelude.{sequence, set, Format, around, only, then, each, this_number, this_oid, SpellsFor}
use Rattle.rpki_der.specs.Prelude.{FirstFault, IsEndFault, end}
use Rattle.rpki.specs.Prelude.{ExtensionParts, kept_extension, SignedParts, IsContentWith, SpellsNameOctets}
use Rattle.rpki.specs.NameFault.{name}
use Rattle.rpki.specs.PublicKey.{KeyParts}
use Rattle.rpki.specs.KeyFault.{key}
use Rattle.rpki.specs.declared.crypto.keys.PublicKeyFormat.TheVariants.{Rsa}
use Rattle.rpki.specs.Provider.{Checkers, VerifiesBy}
use Rattle.rpki.specs.SignedData.{signature_in}
use Rattle.rpki_x509.specs.Tag.{zero_tag}
use Rattle.rpki_x509.specs.Signed.{SpellsWhole, IsWholeSignedFault}
use Rattle.rpki_cert.specs.declared.extension.key_usage.KeyUsage.{KeyUsage}
use Rattle.rpki_cert.specs.declared.extension.key_usage.KeyUsage.TheVariants.{Ca, Ee}
use Rattle.rpki_cert.specs.Access.{first_rsync, first_https, named, ca_repository, rpki_manifest, rpki_notify}
use Rattle.rpki_cert.specs.AccessDescription.{Description, description_of, description}
use Rattle.rpki_cert.specs.declared.extension.access_description.AccessDescription.{AccessDescription}
use Rattle.rpki_cert.specs.ExtensionContent.{SpellsConstraints, SpellsUsage}
use Rattle.rpki_cert.specs.Known.{HasExtension, basic_constraints, key_usage, subject_info_access}
use Rattle.rpki_request.specs.declared.access.RepositoryView.{RepositoryView}
use Rattle.rpki_request.specs.declared.asked.Asked.{Asked}
use Rattle.rpki_request.specs.declared.info.RequestInfo.{RequestInfo}

-- ---- a value that stands for another

-- what was found stands for o, and nothing else does; or nothing stands for it
abbrev pub StandsIn : {X V O : Type 0} → (X → V) → (V → O → Type 0) → O → Option X → Type 0
StandsIn {X} {V} view R o None = (v : V) → R v o → ⊥
StandsIn {X} {V} view R o (Some x) = R (view x) o × ((w : V) → R w o → w ≡ view x)

-- ---- where the authority publishes (RFC 6487 4.8.8.1, 6.3, RFC 8182 3.2)

-- the folder of its objects, its manifest, and where changes are told
pub record RepositoryParts : Type 0 where
  pub base : List ℕ
  pub manifest : List ℕ
  pub notification : Option (List ℕ)

abbrev pub view_parts : RepositoryView → RepositoryParts
view_parts x = record {
  base = x.base.now;
  manifest = x.manifest.now;
  notification = option_copied x.notification;
}

abbrev pub descriptions_in : List AccessDescription → List Description
descriptions_in xs = map description_of xs

abbrev pub each_description : Format (List Description)
each_description = each description

abbrev pub access : Format (List Description)
access = around sequence each_description

-- one more, where it is there
abbrev pub one_more : {V : Type 0} → Option V → ℕ
one_more None = 0
one_more (Some v) = 1

-- An rsync URI of each of the first two methods; an https URI of the third, or none; and no other description.
pub record IsRepository (v : RepositoryParts) (ds : List Description) : Type 0 where
  pub base : first_rsync (named ca_repository ds) ≡ Some v.base
  pub manifest : first_rsync (named rpki_manifest ds) ≡ Some v.manifest
  pub notification : first_https (named rpki_notify ds) ≡ v.notification
  pub count : length ds ≡ 2 + one_more v.notification

-- a SEQUENCE of such descriptions, in any order
abbrev pub SpellsRepository : RepositoryParts → List ℕ → Type 0
SpellsRepository = SpellsFor access.spells IsRepository

-- ---- the extensions that are asked for (RFC 6487 6.3)

-- the use of the key, where it is asked for; and where the authority publishes
pub record AskedParts : Type 0 where
  pub usage : Option KeyUsage
  pub repository : RepositoryParts

-- that of an authority, or none
abbrev pub IsAuthoritys : Option KeyUsage → Type 0
IsAuthoritys None = Unit {0}
IsAuthoritys (Some Ca) = Unit {0}
IsAuthoritys (Some Ee) = ⊥

pub record HasUsage (u : Option KeyUsage) (xs : List ExtensionParts) : Type 0 where
  pub has : HasExtension key_usage true SpellsUsage xs u
  pub authority : IsAuthoritys u

-- Basic constraints of an authority, perhaps its key usage, and where it publishes, each in the form that it has in a
-- certificate and as critical as there; and no other extension. They are in any order.
pub record AreAsked (v : AskedParts) (xs : List ExtensionParts) : Type 0 where
  pub constraints : HasExtension basic_constraints true SpellsConstraints xs (Some tt)
  pub usage : HasUsage v.usage xs
  pub access : HasExtension subject_info_access false SpellsRepository xs (Some v.repository)
  pub count : length xs ≡ 2 + one_more v.usage

abbrev pub asked_of : Asked → AskedParts
asked_of x = record {
  usage = x.key_usage;
  repository = record {
    base = x.ca_repository;
    manifest = x.rpki_manifest;
    notification = x.rpki_notify;
  };
}

abbrev pub each_extension : Format (List ExtensionParts)
each_extension = each kept_extension

abbrev pub extension_list : Format (List ExtensionParts)
extension_list = around sequence each_extension

-- they are others; or allocation failed
abbrev pub AreOthers : List ExtensionParts → List ℕ → DecodeError → Type 0
AreOthers xs r e =
    (((v : AskedParts) → AreAsked v xs → ⊥)
    × IsContentWith (codes "extensions that no request of an authority has") e)
    ⊎ (e ≡ OutOfMemory)

abbrev pub asked : Format AskedParts
asked = record {
  spells = SpellsFor extension_list.spells AreAsked;
  fault = FirstFault extension_list.spells extension_list.fault AreOthers;
}

-- ---- the attribute: the requested extensions, and no other (RFC 2985 5.4.2, RFC 6487 6.1.1)

-- the contents octets of 1.2.840.113549.1.9.14
abbrev pub extension_request : List ℕ
extension_request = 42 ∷ 134 ∷ 72 ∷ 134 ∷ 247 ∷ 13 ∷ 1 ∷ 9 ∷ 14 ∷ []

-- a SET of one list of extensions
abbrev pub attribute_values : Format AskedParts
attribute_values = around set (only asked)

abbrev pub attribute_parts : Format (Unit {0} × AskedParts)
attribute_parts = then (this_oid extension_request) (only attribute_values)

abbrev pub attribute : Format (Unit {0} × AskedParts)
attribute = around sequence attribute_parts

-- a SET of the one attribute, under the implicit context tag 0
abbrev pub attributes : Format (Unit {0} × AskedParts)
attributes = around zero_tag (only attribute)

-- ---- CertificationRequestInfo (RFC 2986 4.1)

-- a name, or a SEQUENCE of nothing, in whose place the issuer puts a name (RFC 6487 6.1.1)
abbrev pub nameless : Format (Unit {0})
nameless = around sequence end

abbrev pub SpellsSubject : Option (List ℕ) → List ℕ → Type 0
SpellsSubject None p = nameless.spells tt p
SpellsSubject (Some n) p = SpellsNameOctets n p

abbrev pub subject : Format (Option (List ℕ))
subject = record { spells = SpellsSubject; fault = name.fault }

-- the subject, its key, and the extensions that are asked for
pub record InfoParts : Type 0 where
  pub subject : Option (List ℕ)
  pub key : KeyParts
  pub asked : AskedParts

abbrev pub Fields : Type 0
Fields = Unit {0} × (Option (List ℕ) × (KeyParts × (Unit {0} × AskedParts)))

abbrev pub fields_of : InfoParts → Fields
fields_of x = (tt, (x.subject, (x.key, (tt, x.asked))))

abbrev pub info_of : RequestInfo → InfoParts
info_of x = record {
  subject = x.subject;
  key = x.key;
  asked = asked_of x.asked;
}

abbrev pub fields_in : RequestInfo → Fields
fields_in x = fields_of (info_of x)

-- version 1, whose number is 0; the fields, in order; and nothing else
abbrev pub fields : Format Fields
fields = then (this_number 0) (then subject (then key (only attributes)))

abbrev pub request_info : Format Fields
request_info = around sequence fields

-- ---- a request

-- what is signed, as octets, its algorithm and signature; and what the signed octets are
pub record RequestParts : Type 0 where
  pub signed : SignedParts Bool
  pub info : InfoParts

abbrev pub request_parts : SignedParts Bool → InfoParts → RequestParts
request_parts signed info = record { signed = signed; info = info }

-- the signed octets are such information
pub record IsInfoIn (x : RequestParts) (signed : SignedParts Bool) : Type 0 where
  pub same : x.signed ≡ signed
  pub info : request_info.spells (fields_of x.info) signed.signed

-- what is signed is none
abbrev pub IsNoInfo : SignedParts Bool → List ℕ → DecodeError → Type 0
IsNoInfo signed r e =
    FirstFault request_info.spells request_info.fault (λ x rest d. IsEndFault rest d) signed.signed e

-- signed data of whose signature no bit is unused, around such information
abbrev pub request : Format RequestParts
request = record {
  spells = SpellsFor SpellsWhole IsInfoIn;
  fault = FirstFault SpellsWhole IsWholeSignedFault IsNoInfo;
}

-- the signature is by the key that the request names, as these checks say (RFC 2986 3)
abbrev pub IsOwnSignature : Checkers → RequestParts → Type 0
IsOwnSignature by x = VerifiesBy by (λ (a : Bool). Rsa) x.info.key x.signed.signed (signature_in x.signed)
