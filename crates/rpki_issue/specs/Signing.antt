-- What is to be signed, and what is made of it and a signature by the algorithm of the RPKI (RFC 5280 4.1, RFC 7935 2).
use Rattle.std.specs.Prelude.{◌≡◌, ℕ, Bool, true, List}
use Rattle.rpki.specs.declared.crypto.keys.PublicKeyFormat.TheVariants.{Rsa}
use Rattle.rpki.specs.Oids.{sha256_with_rsa_encryption}
use Rattle.rpki.specs.AlgorithmOctets.{algorithm_octets}
use Rattle.rpki.specs.Provider.{Checkers, VerifiesBy}
use Rattle.rpki.specs.PublicKey.{KeyParts}
use Rattle.rpki.specs.Signature.{signature_of}
use Rattle.rpki.specs.SignedData.{SignedParts, parts_of, written_signed, IsShortSigned}
use Rattle.rpki_cert.specs.Cert.{TbsParts, cert_parts, SpellsCert}
use Rattle.rpki_cert.specs.declared.profile.Profile.{Profile}
use Rattle.rpki_cert.specs.Profile.{HasProfile, rules_of}
use Rattle.rpki_cert.specs.Rule.{IsFirstBroken}
use Rattle.rpki_issue.specs.declared.error.IssueError.{IssueError}
use Rattle.rpki_issue.specs.declared.error.IssueError.TheVariants.{Uri, Period, Doubled, Resources, TooLong}
use Rattle.rpki_issue.specs.declared.error.IssueError.TheVariants.{Rule, ContentType, Certificate, BadSignature}
use Rattle.rpki_issue.specs.declared.error.IssueError.TheVariants.{OutOfMemory}
use Rattle.rpki_issue.specs.declared.kind.CertExtensions.{CertExtensions}
use Rattle.rpki_issue.specs.Extensions.{extensions_of, extensions_listed, profile_of, AreUris, CanHold}
use Rattle.rpki_issue.specs.Tbs.{Issued, tbs_octets, IsShortTbs, normal_tbs}
use Rattle.rpki_issue.specs.Refusal.{CanWrite}

-- ---- octets and a signature

-- the algorithm, as it is written
abbrev pub written_algorithm : Bool → List ℕ
written_algorithm a = algorithm_octets sha256_with_rsa_encryption true

-- these octets with this signature, by the algorithm of the RPKI with its parameters
abbrev pub signed_parts : List ℕ → List ℕ → SignedParts Bool
signed_parts octets value = parts_of octets true value

-- what is written of them
abbrev pub signed_whole : List ℕ → List ℕ → List ℕ
signed_whole octets value = written_signed written_algorithm (signed_parts octets value)

-- a length announces it
abbrev pub IsShortWhole : List ℕ → List ℕ → Type 0
IsShortWhole octets value = IsShortSigned written_algorithm (signed_parts octets value)

-- the signature of the octets is by this key, as these checks say
abbrev pub IsSignatureBy : Checkers → KeyParts → List ℕ → List ℕ → Type 0
IsSignatureBy by key octets value = VerifiesBy by (λ (a : Bool). Rsa) key octets (signature_of true value)

-- the octets are signed: a signature by the key, and both as they are written
pub record AreSigned (by : Checkers) (key : KeyParts) (octets value whole : List ℕ) : Type 0 where
  pub verified : IsSignatureBy by key octets value
  pub short : IsShortWhole octets value
  pub written : whole ≡ signed_whole octets value

-- they aren't: the signature is another's, or no length announces all
abbrev pub IsSigningRefusal : Checkers → KeyParts → List ℕ → List ℕ → IssueError → Type 0
IsSigningRefusal by key octets value Uri = ⊥
IsSigningRefusal by key octets value Period = ⊥
IsSigningRefusal by key octets value Doubled = ⊥
IsSigningRefusal by key octets value Resources = ⊥
IsSigningRefusal by key octets value TooLong = IsShortWhole octets value → ⊥
IsSigningRefusal by key octets value (Rule r) = ⊥
IsSigningRefusal by key octets value ContentType = ⊥
IsSigningRefusal by key octets value Certificate = ⊥
IsSigningRefusal by key octets value BadSignature = IsSignatureBy by key octets value → ⊥
IsSigningRefusal by key octets value OutOfMemory = Unit {0}

-- ---- certificates

-- what is to be signed, as octets and as what they are
pub record ToSign : Type 0 where
  pub octets : List ℕ
  pub tbs : TbsParts

-- of these values: the octets are those that are written of them, which are read as the normal form, which has the
-- profile of its kind
pub record IsToSign (x : Issued) (e : CertExtensions) (made : ToSign) : Type 0 where
  pub octets : made.octets ≡ tbs_octets x (extensions_listed (extensions_of e))
  pub tbs : made.tbs ≡ normal_tbs x (extensions_of e)
  pub has : HasProfile (profile_of e.kind) true made.tbs

-- it breaks this rule first
abbrev pub IsProfileRefusal : Profile → TbsParts → IssueError → Type 0
IsProfileRefusal profile t Uri = ⊥
IsProfileRefusal profile t Period = ⊥
IsProfileRefusal profile t Doubled = ⊥
IsProfileRefusal profile t Resources = ⊥
IsProfileRefusal profile t TooLong = ⊥
IsProfileRefusal profile t (Rule r) =
    IsFirstBroken true t (rules_of profile) r × (HasProfile profile true t → ⊥)
IsProfileRefusal profile t ContentType = ⊥
IsProfileRefusal profile t Certificate = ⊥
IsProfileRefusal profile t BadSignature = ⊥
IsProfileRefusal profile t OutOfMemory = Unit {0}

-- octets that are read as this, which has the profile
pub record IsReadAs (profile : Profile) (octets : List ℕ) (made : ToSign) (t : TbsParts) : Type 0 where
  pub same : made.octets ≡ octets
  pub tbs : made.tbs ≡ t
  pub has : HasProfile profile true t

-- they are none: a URI that no reader accepts, resources that no extension says, more octets than a length announces,
-- or a rule of the profile that is broken first
abbrev pub IsPlanRefusal : Issued → CertExtensions → IssueError → Type 0
IsPlanRefusal x e Uri = AreUris e → ⊥
IsPlanRefusal x e Period = ⊥
IsPlanRefusal x e Doubled = ⊥
IsPlanRefusal x e Resources = CanWrite e → ⊥
IsPlanRefusal x e TooLong = CanHold e → IsShortTbs x (extensions_listed (extensions_of e)) → ⊥
IsPlanRefusal x e (Rule r) = IsProfileRefusal (profile_of e.kind) (normal_tbs x (extensions_of e)) (Rule r)
IsPlanRefusal x e ContentType = ⊥
IsPlanRefusal x e Certificate = ⊥
IsPlanRefusal x e BadSignature = ⊥
IsPlanRefusal x e OutOfMemory = Unit {0}

-- the certificate of this signature, as it is written, is read as the certificate that was to be signed
pub record IsIssuedCert (by : Checkers) (key : KeyParts) (made : ToSign) (value whole : List ℕ) : Type 0 where
  pub signed : AreSigned by key made.octets value whole
  pub read_back : SpellsCert (cert_parts (signed_parts made.octets value) made.tbs) whole
