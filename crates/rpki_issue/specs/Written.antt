-- What is signed of a certificate, part by part.
use Rattle.std.specs.Prelude.{◌<◌, ◌^◌, ℕ, true, List, ◌++◌}
use Rattle.rpki_time.specs.Serial.{serial_octets}
use Rattle.rpki_time.specs.Validity.{AreTimeYears}
use Rattle.rpki_time.specs.PeriodValue.{period_octets}
use Rattle.rpki.specs.Oids.{sha256_with_rsa_encryption}
use Rattle.rpki.specs.AlgorithmOctets.{algorithm_octets}
use Rattle.rpki.specs.Prelude.{SpellsNameOctets}
use Rattle.rpki.specs.PublicKey.{key_octets, SpellsKey}
use Rattle.rpki.specs.ExtensionValue.{ExtensionParts}
use Rattle.rpki_cert.specs.Cert.{SpellsTbs, AreExtensions}
use Rattle.rpki_issue.specs.declared.error.IssueError.{IssueError}
use Rattle.rpki_issue.specs.declared.error.IssueError.TheVariants.{Uri, Period, Doubled, Resources, TooLong}
use Rattle.rpki_issue.specs.declared.error.IssueError.TheVariants.{Rule, ContentType, Certificate, BadSignature}
use Rattle.rpki_issue.specs.declared.error.IssueError.TheVariants.{OutOfMemory}
use Rattle.rpki_issue.specs.Tbs.{Issued, version_octets, tbs_octets, IsShortTbs, normal_tbs}

-- the version, the serial number and the algorithm
abbrev pub numbered_octets : Issued → List ℕ
numbered_octets x =
    version_octets ++ (serial_octets x.serial ++ algorithm_octets sha256_with_rsa_encryption true)

-- the issuer, the period and the subject
abbrev pub called_octets : Issued → List ℕ
called_octets x = x.issuer ++ (period_octets x.validity ++ x.subject)

-- names are read as themselves, and the period has years that times have
pub record AreNamed (x : Issued) : Type 0 where
  pub issuer : SpellsNameOctets x.issuer x.issuer
  pub subject : SpellsNameOctets x.subject x.subject
  pub years : AreTimeYears x.validity

-- each part is read as what it is
pub record ArePartsSpelled (x : Issued) : Type 0 where
  pub below : x.serial < 2 ^ 159
  pub named : AreNamed x
  pub key : SpellsKey x.key (key_octets x.key)

-- with the extensions that these octets spell it is read as the normal form
abbrev pub IsRead : Issued → List ℕ → Type 0
IsRead x e = (xs : List ExtensionParts) → AreExtensions xs e → SpellsTbs (normal_tbs x xs) (tbs_octets x e)

-- more octets than a length announces, where what is short is this
abbrev pub IsKeyedRefusal : Type 0 → IssueError → Type 0
IsKeyedRefusal short Uri = ⊥
IsKeyedRefusal short Period = ⊥
IsKeyedRefusal short Doubled = ⊥
IsKeyedRefusal short Resources = ⊥
IsKeyedRefusal short TooLong = short → ⊥
IsKeyedRefusal short (Rule r) = ⊥
IsKeyedRefusal short ContentType = ⊥
IsKeyedRefusal short Certificate = ⊥
IsKeyedRefusal short BadSignature = ⊥
IsKeyedRefusal short OutOfMemory = Unit {0}

-- TBSCertificate with these extensions has 2^32 octets or more
abbrev pub IsWriteRefusal : Issued → List ℕ → IssueError → Type 0
IsWriteRefusal x listed = IsKeyedRefusal (IsShortTbs x listed)
