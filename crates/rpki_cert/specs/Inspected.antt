-- What the rules of profiles read of a certificate.
use Rattle.std.specs.Prelude.{◌≡◌, ℕ, Bool, true, false, List, Option, Result}
use Rattle.rpki_der.specs.Each.{SpellsEach}
use Rattle.rpki_der.specs.Format.{Format}
use Rattle.rpki_der.specs.Leaves.{bits_of}
use Rattle.rpki.specs.PublicKey.{KeyParts, key_of}
use Rattle.rpki_cert.specs.declared.profile.key_rule.KeyBits.{KeyBits}
use Rattle.rpki.specs.ExtensionValue.{ExtensionParts, SpellsExtension}
use Rattle.rpki_cert.specs.declared.extension.source.ExtensionSource.{ExtensionSource}
use Rattle.rpki_cert.specs.declared.extension.source.ExtensionSource.TheVariants.{Kept, Listed}
use Rattle.rpki_cert.specs.declared.profile.inspected.Inspected.{Inspected}
use Rattle.rpki_cert.specs.Cert.{TbsParts, find}
use Rattle.rpki_cert.specs.declared.extension.values.ExtensionValues.{ExtensionValues}
use Rattle.rpki.specs.declared.repository.error.ValidationError.{ValidationError}
use Rattle.rpki.specs.KeyIdentifier.{SpellsKeyIdentifier}
use Rattle.rpki_cert.specs.declared.extension.key_usage.KeyUsage.{KeyUsage}
use Rattle.rpki_cert.specs.declared.extension.policy.Overclaim.{Overclaim}
use Rattle.rpki_cert.specs.ExtensionContent.{SpellsConstraints, SpellsUsage, SpellsPolicies}
use Rattle.rpki_x509.specs.Authority.{SpellsAuthority}
use Rattle.rpki_x509.specs.Authority.{WholeFault, authority_content}
use Rattle.rpki_cert.specs.ExtensionContent.{constraints_content, policies_content}
use Rattle.rpki_cert.specs.ExtensionContent.{subject_content, usage_content}
use Rattle.rpki_cert.specs.Known.{subject_info_access, subject_key_identifier, key_usage}
use Rattle.rpki_x509.specs.Authority.{authority_key_identifier}
use Rattle.rpki_cert.specs.Known.{basic_constraints, certificate_policies, IsSaid, IsSaidThere}
use Rattle.rpki_cert.specs.AccessInformation.{IsTold}

-- the extensions: values that are kept; or those of a table
abbrev pub AreIn : List ExtensionParts → ExtensionSource → Type 0
AreIn xs (Kept all) = all.now ≡ xs
AreIn xs (Listed table) = SpellsEach SpellsExtension xs table.now

-- its format and its bits are those of the key
abbrev pub IsKeyOf : KeyParts → KeyBits → Type 0
IsKeyOf k b = key_of b.format (bits_of b.unused b.octets.now) ≡ k

-- what is found says a value of this format; or this is the error of what is another
abbrev pub IsSaidBy : {V : Type 0} → Bool → Format V → Option ExtensionParts → Result (Option V) ValidationError
    → Type 0
IsSaidBy critical F = IsSaid critical F.spells (WholeFault F)

-- the same of each
abbrev pub AreConstraintsSaid : Option ExtensionParts → Result Bool ValidationError → Type 0
AreConstraintsSaid = IsSaidThere true SpellsConstraints (WholeFault constraints_content)

abbrev pub IsSubjectSaid : Option ExtensionParts → Result (Option (List ℕ)) ValidationError → Type 0
IsSubjectSaid = IsSaid false SpellsKeyIdentifier (WholeFault subject_content)

abbrev pub IsAuthoritySaid : Option ExtensionParts → Result (Option (List ℕ)) ValidationError → Type 0
IsAuthoritySaid = IsSaid false SpellsAuthority (WholeFault authority_content)

abbrev pub IsUsageSaid : Option ExtensionParts → Result (Option KeyUsage) ValidationError → Type 0
IsUsageSaid = IsSaid true SpellsUsage (WholeFault usage_content)

abbrev pub IsPolicySaid : Option ExtensionParts → Result (Option Overclaim) ValidationError → Type 0
IsPolicySaid = IsSaid true SpellsPolicies (WholeFault policies_content)

-- of these extensions
pub record AreValues (xs : List ExtensionParts) (v : ExtensionValues) : Type 0 where
  pub constraints : AreConstraintsSaid (find basic_constraints xs) v.ca
  pub subject : IsSubjectSaid (find subject_key_identifier xs) v.subject_key_identifier
  pub authority : IsAuthoritySaid (find authority_key_identifier xs) v.authority_key_identifier
  pub usage : IsUsageSaid (find key_usage xs) v.key_usage
  pub policy : IsPolicySaid (find certificate_policies xs) v.overclaim

-- all of it is of this certificate
pub record IsReadOf (t : TbsParts) (v : Inspected) : Type 0 where
  pub serial : v.serial_number ≡ t.serial
  pub issuer : v.issuer ≡ t.issuer
  pub subject : v.subject ≡ t.subject
  pub validity : v.validity ≡ t.validity
  pub key : IsKeyOf t.key v.key
  pub extensions : AreIn t.extensions v.extensions
  pub values : AreValues t.extensions v.values
  pub access : IsTold (find subject_info_access t.extensions) v.access
