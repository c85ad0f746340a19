-- What the extensions of a certificate say, where they are read in place (RFC 6487 4.8).
use Rattle.std.specs.Prelude.{true, false, List}
use Rattle.rpki.specs.KeyIdentifier.{SpellsKeyIdentifier}
use Rattle.rpki.specs.ExtensionValue.{ExtensionParts}
use Rattle.rpki_cert.specs.declared.extension.known_part.KnownPart.{KnownPart}
use Rattle.rpki_cert.specs.declared.extension.known_part.KnownPart.TheVariants.{BasicConstraints, SubjectKeyIdentifier}
use Rattle.rpki_cert.specs.declared.extension.known_part.KnownPart.TheVariants.{AuthorityKeyIdentifier, KeyUsage}
use Rattle.rpki_cert.specs.declared.extension.known_part.KnownPart.TheVariants.{CertificatePolicies}
use Rattle.rpki_cert.specs.declared.extension.known_view.KnownView.{KnownView}
use Rattle.rpki_cert.specs.Known.{subject_key_identifier, key_usage, basic_constraints, certificate_policies}
use Rattle.rpki_x509.specs.Authority.{authority_key_identifier}
use Rattle.rpki_cert.specs.Known.{present, HasOnly, HasNone}
use Rattle.rpki_cert.specs.ExtensionContent.{SpellsConstraints, SpellsUsage, SpellsPolicies}
use Rattle.rpki_x509.specs.Authority.{SpellsAuthority}

-- what the extensions say: each is there, as critical as it has to be and in its form, or isn't there
pub record AreKnown (xs : List ExtensionParts) (v : KnownView) : Type 0 where
  pub constraints : HasOnly basic_constraints true SpellsConstraints xs (present v.ca)
  pub subject : HasOnly subject_key_identifier false SpellsKeyIdentifier xs v.subject_key_identifier
  pub authority : HasOnly authority_key_identifier false SpellsAuthority xs v.authority_key_identifier
  pub usage : HasOnly key_usage true SpellsUsage xs v.key_usage
  pub policy : HasOnly certificate_policies true SpellsPolicies xs v.overclaim

-- this extension is there, and is malformed, or not as critical as it has to be
abbrev pub IsKnownWrong : List ExtensionParts → KnownPart → Type 0
IsKnownWrong xs BasicConstraints = HasNone basic_constraints true SpellsConstraints xs
IsKnownWrong xs SubjectKeyIdentifier = HasNone subject_key_identifier false SpellsKeyIdentifier xs
IsKnownWrong xs AuthorityKeyIdentifier = HasNone authority_key_identifier false SpellsAuthority xs
IsKnownWrong xs KeyUsage = HasNone key_usage true SpellsUsage xs
IsKnownWrong xs CertificatePolicies = HasNone certificate_policies true SpellsPolicies xs

abbrev pub IsKnownRight : List ExtensionParts → KnownPart → Type 0
IsKnownRight xs part = IsKnownWrong xs part → ⊥

-- this one is wrong, and those before it are not
abbrev pub IsFirstWrong : List ExtensionParts → KnownPart → Type 0
IsFirstWrong xs BasicConstraints = IsKnownWrong xs BasicConstraints
IsFirstWrong xs SubjectKeyIdentifier = IsKnownRight xs BasicConstraints × IsKnownWrong xs SubjectKeyIdentifier
IsFirstWrong xs AuthorityKeyIdentifier =
    IsKnownRight xs BasicConstraints × IsKnownRight xs SubjectKeyIdentifier × IsKnownWrong xs AuthorityKeyIdentifier
IsFirstWrong xs KeyUsage =
    IsKnownRight xs BasicConstraints × IsKnownRight xs SubjectKeyIdentifier × IsKnownRight xs AuthorityKeyIdentifier
    × IsKnownWrong xs KeyUsage
IsFirstWrong xs CertificatePolicies =
    IsKnownRight xs BasicConstraints × IsKnownRight xs SubjectKeyIdentifier × IsKnownRight xs AuthorityKeyIdentifier
    × IsKnownRight xs KeyUsage × IsKnownWrong xs CertificatePolicies
