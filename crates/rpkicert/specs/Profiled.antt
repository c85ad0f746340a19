-- Which profile the certificate of an object has: the one that is asked for, and of a signer that of an end entity.
use Rattle.std.specs.Prelude.{◌≡◌, ◌⊎◌, ℕ, Bool, true, false, if◌then◌else◌, List, [], ◌∷◌, Option, Some, None}
use Rattle.std.specs.Prelude.{option_and_then, option_map, bytes_eq, Result, MatchResult}
use Rattle.rpki_cert.specs.Cert.{TbsParts}
use Rattle.rpki_cert.specs.Profile.{rules_of, HasProfile}
use Rattle.rpki_cert.specs.RuleError.{BreaksWith}
use Rattle.rpki_cert.specs.declared.profile.Profile.{Profile}
use Rattle.rpki_cert.specs.declared.profile.Profile.TheVariants.{Ee, DetachedEe}
use Rattle.rpki_objects.specs.SignedObject.{ObjectParts}
use Rattle.rpki_fields.specs.Object.{cert_of}
use Rattle.rpki_fields.specs.declared.object.Object.{Object}
use Rattle.rpkicert.specs.declared.choice.Choice.{Choice}
use Rattle.rpkicert.specs.declared.choice.Choice.TheVariants.{Named, Auto}
use Rattle.rpkicert.specs.declared.profile.Inspection.{Inspection}
use Rattle.rpkicert.specs.declared.violation.Violation.{Violation}
use Rattle.rpkicert.specs.declared.fault.Fault.{Fault}
use Rattle.rpkicert.specs.declared.fault.Fault.TheVariants.{Violated, NoCertificate}
use Rattle.rpkicert.specs.Chosen.{is_named, IsChosen}
use Rattle.rpkicert.specs.Requirements.{signed_of}

-- ---- of one certificate

-- a certificate that has the profile that is chosen for it
abbrev pub HasChosen : Inspection → TbsParts → Type 0
HasChosen inspection t =
    (profile : Profile) × IsChosen inspection.choice t profile × HasProfile profile inspection.strict t

-- the first of the rules of that profile that it breaks, and its error
abbrev pub BreaksChosen : Inspection → TbsParts → Violation → Type 0
BreaksChosen inspection t v =
    (profile : Profile) × IsChosen inspection.choice t profile
    × BreaksWith inspection.strict t (rules_of profile) v.rule v.error

-- there is a certificate that has the profile, where one is asked for
abbrev pub Meets : Option Inspection → Option TbsParts → Type 0
Meets None cert = Unit {0}
Meets (Some inspection) None = ⊥
Meets (Some inspection) (Some t) = HasChosen inspection t

-- this is the first of the rules that the certificate breaks, and its error
abbrev pub IsViolation : Option Inspection → Option TbsParts → Violation → Type 0
IsViolation None cert v = ⊥
IsViolation (Some inspection) None v = ⊥
IsViolation (Some inspection) (Some t) v = BreaksChosen inspection t v

-- there is no certificate; or this is the rule that it breaks first
abbrev pub IsUnmet : Option Inspection → Option TbsParts → Fault → Type 0
IsUnmet inspection cert f =
    ((f ≡ NoCertificate) × (cert ≡ None)) ⊎ ((v : Violation) × (f ≡ Violated v) × IsViolation inspection cert v)

-- Ok where it has the profile; else why not
abbrev pub Inspects : Option Inspection → Option TbsParts → Result (Unit {0}) Fault → Type 0
Inspects inspection cert r =
    MatchResult r (λ _. Meets inspection cert) (λ f. (Meets inspection cert → ⊥) × IsUnmet inspection cert f)

-- the same of this profile
abbrev pub InspectsAs : Profile → Bool → TbsParts → Result (Unit {0}) Fault → Type 0
InspectsAs profile strict t r =
    MatchResult r (λ _. HasProfile profile strict t)
    (λ f. (HasProfile profile strict t → ⊥)
    × ((v : Violation) × (f ≡ Violated v) × BreaksWith strict t (rules_of profile) v.rule v.error))

-- there is a certificate that has both profiles, where they are asked for
abbrev pub AreMet : (first own : Option Inspection) → Option TbsParts → Type 0
AreMet first own cert = Meets first cert × Meets own cert

-- there is none that has both, and this is why: the first is looked at first
abbrev pub AreUnmet : (first own : Option Inspection) → Option TbsParts → Fault → Type 0
AreUnmet first own cert f =
    (AreMet first own cert → ⊥)
    × (((Meets first cert → ⊥) × IsUnmet first cert f) ⊎ (Meets first cert × IsUnmet own cert f))

abbrev pub InspectsBoth : (first own : Option Inspection) → Option TbsParts → Result (Unit {0}) Fault → Type 0
InspectsBoth first own cert r = MatchResult r (λ _. AreMet first own cert) (AreUnmet first own cert)

-- ---- of an object

-- a signed checklist (RFC 9323 3): 1.2.840.113549.1.9.16.1.48
abbrev pub checklist_type : List ℕ
checklist_type = 42 ∷ 134 ∷ 72 ∷ 134 ∷ 247 ∷ 13 ∷ 1 ∷ 9 ∷ 16 ∷ 1 ∷ 48 ∷ []

-- the profile of the certificate of a signed object: that of an end entity (RFC 6488 3), without subject information
-- access where it signs a checklist (RFC 9323 2)
abbrev pub end_profile : ObjectParts → Profile
end_profile o = if bytes_eq o.content.content_type checklist_type then DetachedEe else Ee

-- whether names are checked against the profile: as is asked for, or strictly
abbrev pub is_strict : Option Inspection → Bool
is_strict None = true
is_strict (Some inspection) = inspection.strict

abbrev pub inspection_by : Bool → Choice → Inspection
inspection_by strict choice = record { choice = choice; strict = strict }

-- how the certificate of the signer is checked against its profile
abbrev pub own_inspection : Option Inspection → Object → Option Inspection
own_inspection asked x = option_map (λ o. inspection_by (is_strict asked) (Named (end_profile o))) (signed_of x)

-- which profile is asked for of an object's certificate: that of a signer keeps the one of an end entity in place of
-- its own; what has no certificate has none, where none is named
abbrev pub choice_for : Choice → Option ObjectParts → Option TbsParts → Option Choice
choice_for (Named profile) o cert = Some (Named profile)
choice_for Auto (Some o) cert = Some (Named (end_profile o))
choice_for Auto None None = None
choice_for Auto None (Some t) = Some Auto

abbrev pub inspection_for : Object → Inspection → Option Inspection
inspection_for x inspection =
    option_map (inspection_by inspection.strict) (choice_for inspection.choice (signed_of x) (cert_of x))

abbrev pub asked_inspection : Option Inspection → Object → Option Inspection
asked_inspection asked x = option_and_then (inspection_for x) asked

-- a profile was named, which only a certificate can have
abbrev pub names_profile : Option Inspection → Bool
names_profile None = false
names_profile (Some inspection) = is_named inspection.choice

-- the certificate has the profile that is asked for, and that of an end entity, where it is a signer's
abbrev pub IsProfiled : Option Inspection → Object → Type 0
IsProfiled asked x = AreMet (asked_inspection asked x) (own_inspection asked x) (cert_of x)

-- it hasn't, and this is why: the profile that is asked for is looked at first
abbrev pub IsUnprofiled : Option Inspection → Object → Fault → Type 0
IsUnprofiled asked x = AreUnmet (asked_inspection asked x) (own_inspection asked x) (cert_of x)
