-- What the octets of the extensions are, each in the form of RFC 6487 4.8.
use Rattle.std.specs.Prelude.{◌≢◌, ◌≡◌, ◌⊎◌, ◌||◌, ℕ, Bool, true, false, List, [], ◌∷◌}
use Rattle.std.specs.Str.{IsAscii}
use Rattle.rpki_der.specs.Prelude.{sequence, boolean, bit_string, oid, ia5_string, SpellsLeaf}
use Rattle.rpki_der.specs.Prelude.{SpellsSome}
use Rattle.rpki_der.specs.Prelude.{IsOnly, boolean_contents, this_oid}
use Rattle.rpki_der.specs.Prelude.{Format, leaf, around, only, then, said_by}
use Rattle.rpki.specs.KeyIdentifier.{SpellsKeyIdentifier, IsKeyIdentifier, IsIdentifierFault}
use Rattle.rpki_cert.specs.Access.{SpellsOidAs}
use Rattle.rpki_cert.specs.declared.extension.key_usage.KeyUsage.{KeyUsage}
use Rattle.rpki_cert.specs.declared.extension.key_usage.KeyUsage.TheVariants.{Ca, Ee}
use Rattle.rpki_cert.specs.declared.extension.policy.Overclaim.{Overclaim}
use Rattle.rpki_cert.specs.declared.extension.policy.Overclaim.TheVariants.{Refuse, Trim}

-- ---- basic constraints: cA is TRUE, and there is no pathLenConstraint (RFC 5280 4.2.1.9, RFC 6487 4.8.1)

abbrev pub constraints_content : Format (Unit {0})
constraints_content = around sequence (only (leaf boolean (IsOnly (boolean_contents true))))

abbrev pub SpellsConstraints : Unit {0} → List ℕ → Type 0
SpellsConstraints = constraints_content.spells

-- ---- the subject key identifier (RFC 5280 4.2.1.2, RFC 6487 4.8.2)

abbrev pub subject_content : Format (List ℕ)
subject_content = record { spells = SpellsKeyIdentifier; fault = IsIdentifierFault IsKeyIdentifier }

-- ---- key usage: a BIT STRING (RFC 5280 4.2.1.3, RFC 6487 4.8.4)

-- of an authority exactly the bits 5 and 6 are set, keyCertSign and cRLSign; of an end entity exactly the bit 0,
-- digitalSignature; no zero bit is at the end (X.690 11.2.2)
abbrev pub IsUsage : KeyUsage → List ℕ → Type 0
IsUsage Ca c = c ≡ 1 ∷ 6 ∷ []
IsUsage Ee c = c ≡ 7 ∷ 128 ∷ []

abbrev pub usage_content : Format KeyUsage
usage_content = leaf bit_string IsUsage

abbrev pub SpellsUsage : KeyUsage → List ℕ → Type 0
SpellsUsage = usage_content.spells

-- ---- extended key usage: object identifiers of purposes, one at least (RFC 5280 4.2.1.12)

-- 1.3.6.1.5.5.7.3.30: a BGPsec router (RFC 8209 3.1.3.2)
abbrev pub router_purpose : List ℕ
router_purpose = 43 ∷ 6 ∷ 1 ∷ 5 ∷ 5 ∷ 7 ∷ 3 ∷ 30 ∷ []

-- an object identifier, and whether it is this one
abbrev pub SpellsPurpose : Bool → List ℕ → Type 0
SpellsPurpose = SpellsOidAs router_purpose

-- one of them is
abbrev pub has_router : List Bool → Bool
has_router [] = false
has_router (x ∷ xs) = x || has_router xs

-- one purpose at least; and whether a router's is among them
pub record ArePurposes (router : Bool) (c : List ℕ) : Type 0 where
  pub purposes : List Bool
  pub some : SpellsSome SpellsPurpose purposes c
  pub same : router ≡ has_router purposes

abbrev pub SpellsPurposes : Bool → List ℕ → Type 0
SpellsPurposes = SpellsLeaf sequence true ArePurposes

-- ---- certificate policies: the one of the RPKI (RFC 6487 4.8.9, RFC 6484 1.2, RFC 8360 4.2.1)

-- 1.3.6.1.5.5.7.14.2; with validation reconsidered 1.3.6.1.5.5.7.14.3
abbrev pub IsPolicyName : Overclaim → List ℕ → Type 0
IsPolicyName Refuse c = c ≡ 43 ∷ 6 ∷ 1 ∷ 5 ∷ 5 ∷ 7 ∷ 14 ∷ 2 ∷ []
IsPolicyName Trim c = c ≡ 43 ∷ 6 ∷ 1 ∷ 5 ∷ 5 ∷ 7 ∷ 14 ∷ 3 ∷ []

abbrev pub policy_name : Format Overclaim
policy_name = leaf oid IsPolicyName

abbrev pub SpellsPolicyName : Overclaim → List ℕ → Type 0
SpellsPolicyName = policy_name.spells

-- 1.3.6.1.5.5.7.2.1: the qualifier that points to a statement of practices (RFC 5280 4.2.1.4, RFC 7318 2)
abbrev pub statement_name : List ℕ
statement_name = 43 ∷ 6 ∷ 1 ∷ 5 ∷ 5 ∷ 7 ∷ 2 ∷ 1 ∷ []

-- the contents of any IA5String
abbrev pub IsAnyIa5 : Unit {0} → List ℕ → Type 0
IsAnyIa5 v c = IsAscii c

abbrev pub statement_value : Format (Unit {0})
statement_value = leaf ia5_string IsAnyIa5

abbrev pub SpellsStatement : Unit {0} → List ℕ → Type 0
SpellsStatement = statement_value.spells

-- exactly one qualifier: a SEQUENCE of that name and of a URI
abbrev pub qualifier_parts : Format (Unit {0} × Unit {0})
qualifier_parts = then (this_oid statement_name) (only statement_value)

abbrev pub AreQualifierParts : Unit {0} × Unit {0} → List ℕ → Type 0
AreQualifierParts = qualifier_parts.spells

abbrev pub qualifier_value : Format (Unit {0} × Unit {0})
qualifier_value = around sequence qualifier_parts

abbrev pub SpellsQualifier : Unit {0} × Unit {0} → List ℕ → Type 0
SpellsQualifier = qualifier_value.spells

abbrev pub qualifiers_value : Format (Unit {0} × Unit {0})
qualifiers_value = around sequence (only qualifier_value)

abbrev pub SpellsQualifiers : Unit {0} × Unit {0} → List ℕ → Type 0
SpellsQualifiers = qualifiers_value.spells

-- the qualifiers may be left out
abbrev pub optional_qualifiers : Format (Unit {0})
optional_qualifiers = record {
  spells = λ v c. (c ≡ []) ⊎ SpellsQualifiers (tt, tt) c;
  fault = λ s e. (s ≢ []) × (only qualifiers_value).fault s e;
}

abbrev pub AreQualifiers : Unit {0} → List ℕ → Type 0
AreQualifiers = optional_qualifiers.spells

-- a SEQUENCE of exactly one policy
abbrev pub policy_parts : Format (Overclaim × Unit {0})
policy_parts = then policy_name optional_qualifiers

abbrev pub ArePolicyParts : Overclaim × Unit {0} → List ℕ → Type 0
ArePolicyParts = policy_parts.spells

abbrev pub policy_value : Format (Overclaim × Unit {0})
policy_value = around sequence policy_parts

abbrev pub SpellsPolicy : Overclaim × Unit {0} → List ℕ → Type 0
SpellsPolicy = policy_value.spells

abbrev pub SpellsPolicies : Overclaim → List ℕ → Type 0
SpellsPolicies x p = (around sequence (only policy_value)).spells (x, tt) p

abbrev pub policies_content : Format Overclaim
policies_content = said_by SpellsPolicies (around sequence (only policy_value))
