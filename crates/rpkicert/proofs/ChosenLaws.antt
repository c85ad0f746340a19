-- Which profile is chosen for a certificate.
use Rattle.std.proofs.Common.{◌≡◌, ◌↔◌, ◌∙◌, Bool, true, false, refl, sym, subst, inr}
use Rattle.std.proofs.lemmas.Bool.{false≢true}
use Rattle.std.specs.Prelude.{Option, Some, Result, Ok, Err, IsTrue, MatchResult}
use Rattle.rpki_cert.specs.Cert.{TbsParts}
use Rattle.rpki_cert.specs.Profile.{HasProfile}
use Rattle.rpki_cert.specs.declared.profile.Profile.{Profile}
use Rattle.rpki_fields.specs.Object.{cert_of}
use Rattle.rpki_fields.specs.declared.object.Object.{Object}
use Rattle.rpkicert.specs.declared.choice.Choice.{Choice}
use Rattle.rpkicert.specs.declared.choice.Choice.TheVariants.{Named, Auto}
use Rattle.rpkicert.specs.declared.fault.Fault.{Fault}
use Rattle.rpkicert.specs.declared.profile.Inspection.{Inspection}
use Rattle.rpkicert.specs.Chosen.{profile_by, IsOwnProfile, IsChosen}
use Rattle.rpkicert.specs.Profiled.{asked_inspection, own_inspection, Inspects, InspectsAs, InspectsBoth, IsProfiled}
use Rattle.rpkicert.specs.Profiled.{IsUnprofiled}

-- two answers to one question
same-mark : {P : Type 0} (a b : Bool) → IsTrue a ↔ P → IsTrue b ↔ P → a ≡ b
same-mark true true g h = refl
same-mark true false g h = absurd (false≢true (h.1 (g.0 refl)))
same-mark false true g h = absurd (false≢true (g.1 (h.0 refl)))
same-mark false false g h = refl

same-by : (end router detached issued key e r d i k : Bool) → end ≡ e → router ≡ r → detached ≡ d → issued ≡ i → key ≡ k
    → profile_by end router detached issued key ≡ profile_by e r d i k
same-by end router detached issued key e r d i k of_end of_router of_access of_issuer of_key =
    rw (of_end, of_router, of_access, of_issuer, of_key) refl

one-own : (t : TbsParts) (p q : Profile) → IsOwnProfile t p → IsOwnProfile t q → p ≡ q
one-own t p q g h =
    g.by_marks
    ∙ same-by g.end g.router g.detached g.self_issued g.own_key h.end h.router h.detached h.self_issued h.own_key
    (same-mark g.end h.end g.of_end h.of_end) (same-mark g.router h.router g.of_router h.of_router)
    (same-mark g.detached h.detached g.of_access h.of_access)
    (same-mark g.self_issued h.self_issued g.of_issuer h.of_issuer)
    (same-mark g.own_key h.own_key g.of_key h.of_key)
    ∙ sym h.by_marks

pub one-chosen : (choice : Choice) (t : TbsParts) (p q : Profile) → IsChosen choice t p → IsChosen choice t q → p ≡ q
one-chosen (Named named) t p q g h = g ∙ sym h
one-chosen Auto t p q g h = one-own t p q g h

-- a certificate that was checked against the profile that is chosen for it
pub inspected : (inspection : Inspection) (t : TbsParts) (p : Profile) (r : Result (Unit {0}) Fault)
    → IsChosen inspection.choice t p → InspectsAs p inspection.strict t r → Inspects (Some inspection) (Some t) r
inspected inspection t p (Ok u) g h = (p, g, h)
inspected inspection t p (Err f) g h = (
  λ k. h.0 (subst (λ (q : Profile). HasProfile q inspection.strict t)
      (one-chosen inspection.choice t k.0 p k.1 g) k.2),
  inr (h.1.0, h.1.1, (p, g, h.1.2)),
)

-- of an object's certificate
pub profiled-by : (asked : Option Inspection) (x : Object) (first own : Option Inspection) (cert : Option TbsParts)
    (r : Result (Unit {0}) Fault) → first ≡ asked_inspection asked x → own ≡ own_inspection asked x → cert ≡ cert_of x
    → InspectsBoth first own cert r → MatchResult r (λ _. IsProfiled asked x) (IsUnprofiled asked x)
profiled-by asked x first own cert r p q s h = rw (p, q, s) at h
