-- All of the rules of a profile that a certificate breaks.
use Rattle.std.specs.Prelude.{◌≡◌, ◌≢◌, ◌⊎◌, Bool, true, false, not, if◌then◌else◌, List, [], ◌∷◌, ◌++◌, filter}
use Rattle.std.specs.Prelude.{Option, Some, None}
use Rattle.std.specs.List.{list_any}
use Rattle.rpki_cert.specs.Cert.{TbsParts}
use Rattle.rpki_cert.specs.Profile.{rules_of}
use Rattle.rpki_cert.specs.Rule.{Obeys}
use Rattle.rpki_cert.specs.RuleError.{IsRuleError}
use Rattle.rpki_cert.specs.declared.profile.Profile.{Profile}
use Rattle.rpki_cert.specs.declared.profile.rule.CertRule.{CertRule}
use Rattle.rpki_cert.specs.declared.profile.rule.CertRule.TheVariants.{CertificatePolicies, ResourceVersion}
use Rattle.rpki_fields.specs.Object.{cert_of}
use Rattle.rpki_fields.specs.declared.object.Object.{Object}
use Rattle.rpkicert.specs.declared.profile.Inspection.{Inspection}
use Rattle.rpkicert.specs.declared.violation.Violation.{Violation}
use Rattle.rpkicert.specs.Chosen.{IsChosen}
use Rattle.rpkicert.specs.Profiled.{asked_inspection, own_inspection}

-- the certificate breaks this rule, with this error
pub record IsBroken (strict : Bool) (t : TbsParts) (rule : CertRule) (v : Violation) : Type 0 where
  pub same : v.rule ≡ rule
  pub broken : Obeys strict t rule → ⊥
  pub error : IsRuleError t rule v.error

-- These are the rules that the certificate breaks of those, in their order, each once: it obeys all others.
abbrev pub AreBroken : (strict : Bool) → TbsParts → List CertRule → List Violation → Type 0
AreBroken strict t [] [] = Unit {0}
AreBroken strict t [] (v ∷ vs) = ⊥
AreBroken strict t (rule ∷ rules) [] = Obeys strict t rule × AreBroken strict t rules []
AreBroken strict t (rule ∷ rules) (v ∷ vs) =
    (Obeys strict t rule × AreBroken strict t rules (v ∷ vs))
    ⊎ (IsBroken strict t rule v × AreBroken strict t rules vs)

-- a rule more: it is obeyed, or added to those that are broken
pub data AddsBroken (strict : Bool) (t : TbsParts) (rule : CertRule) (old new : List Violation) : Type 0 where
  Obeyed : Obeys strict t rule → new ≡ old → AddsBroken strict t rule old new
  Broken : (v : Violation) → IsBroken strict t rule v → new ≡ old ++ (v ∷ []) → AddsBroken strict t rule old new

-- those of a profile, where one is asked for, and there is a certificate
abbrev pub AreBrokenBy : Option Inspection → Option TbsParts → List Violation → Type 0
AreBrokenBy None cert vs = vs ≡ []
AreBrokenBy (Some inspection) None vs = vs ≡ []
AreBrokenBy (Some inspection) (Some t) vs =
    (profile : Profile) × IsChosen inspection.choice t profile × AreBroken inspection.strict t (rules_of profile) vs

-- the same of the certificate of an object: of the profile that is asked for; where it breaks no rule of that, of the
-- profile of a signer
abbrev pub AreViolations : Option Inspection → Object → List Violation → Type 0
AreViolations asked x vs =
    (AreBrokenBy (asked_inspection asked x) (cert_of x) vs × (vs ≢ []))
    ⊎ (AreBrokenBy (asked_inspection asked x) (cert_of x) [] × AreBrokenBy (own_inspection asked x) (cert_of x) vs)

-- ---- which of them are told

-- the rule is on the policy, which has to be there (RFC 6487 4.8.9)
abbrev pub is_on_policy : CertRule → Bool
is_on_policy CertificatePolicies = true
is_on_policy rule = false

-- the rule is on the version of policy and resources, which are one (RFC 8360 4.2)
abbrev pub is_on_version : CertRule → Bool
is_on_version ResourceVersion = true
is_on_version rule = false

-- all but what only follows: without the policy there is no version, which then says nothing more
abbrev pub telling : List Violation → List Violation
telling vs =
    if list_any (λ v. is_on_policy v.rule) vs then filter (λ v. not (is_on_version v.rule)) vs else vs
