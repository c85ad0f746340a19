-- A run of what is asked for: first its terms, and then the files.
use Rattle.std.specs.Prelude.{◌≡◌, ◌⊎◌, ℕ, Bool, true, List, ◌++◌, codes, Option, Some, None, Result, Ok, Err}
use Rattle.std.specs.Prelude.{IsSome, IfSome, All, if◌then◌else◌}
use Rattle.jiff.specs.Types.{DateTime}
use Rattle.rpki_cert.specs.Cert.{TbsParts}
use Rattle.rpki_cli.specs.World.{World}
use Rattle.rpki_crl.specs.Crl.{CrlParts}
use Rattle.rpki_fields.specs.declared.object.Object.{Object}
use Rattle.rpki_fields.specs.declared.object.Object.TheVariants.{Certificate, Crl, Manifest, Roa}
use Rattle.rpki_fields.specs.declared.object.Object.TheVariants.{Aspa, SignedObject, OtherCertificate}
use Rattle.rpki_fields.specs.declared.object.Object.TheVariants.{Checklist, TrustAnchorKey, Ghostbusters}
use Rattle.rpki_fields.specs.declared.rendering.Form.{Form}
use Rattle.rpkicert.specs.declared.fault.Fault.{Fault}
use Rattle.rpkicert.specs.declared.fault.Fault.TheVariants.{NoCertificate, NoList, OtherAlgorithm}
use Rattle.rpkicert.specs.Fault.{fault_text}
use Rattle.rpkicert.specs.Moment.{Clock, is_now, IsMoment, NamesNoMoment}
use Rattle.rpkicert.specs.Outcome.{Finding, Finds}
use Rattle.rpkicert.specs.Request.{Asked}
use Rattle.rpkicert.specs.Requirements.{TermParts, term_parts, no_terms, list_terms}
use Rattle.rpkicert.specs.Output.{line, OutputParts, IsSeenOf, IsRun}
use Rattle.rpkicert.specs.Words.{Complains, Writes, memory_text, usage_text}

-- what there is by a name: the octets, or None where there is no file; or nothing is known of it
abbrev pub Holds : Type 0
Holds = List ℕ → Option (Option (List ℕ))

-- ---- the terms

-- the certificate that an object is, as that of an issuer
abbrev pub certificate_in : Object → Result TbsParts Fault
certificate_in (Certificate c) = Ok c.tbs
certificate_in (Crl l) = Err NoCertificate
certificate_in (Manifest m) = Err NoCertificate
certificate_in (Roa r) = Err NoCertificate
certificate_in (Aspa a) = Err NoCertificate
certificate_in (Checklist o) = Err NoCertificate
certificate_in (TrustAnchorKey o) = Err NoCertificate
certificate_in (Ghostbusters o) = Err NoCertificate
certificate_in (SignedObject o) = Err NoCertificate
certificate_in (OtherCertificate c) = Err OtherAlgorithm

-- the same of an object that holds, or doesn't for this fault
abbrev pub issuer_or : Object → Option Fault → Result TbsParts Fault
issuer_or x None = certificate_in x
issuer_or x (Some fault) = Err fault

-- the same of what was found; or why there is none
abbrev pub issuer_in : Finding → Result TbsParts Fault
issuer_in (Ok found) = issuer_or found.object found.fault
issuer_in (Err fault) = Err fault

-- what is found in the file of this name, as of an issuer
abbrev pub IsIssuer : Holds → List ℕ → Result TbsParts Fault → Type 0
IsIssuer holds name issuer =
    (finding : Finding) × IfSome (holds name) (λ source. Finds no_terms source finding) × (issuer_in finding ≡ issuer)

-- the certificate in the file of this name; without a name there is none
abbrev pub IsIssuerOf : Holds → Option (List ℕ) → Option TbsParts → Type 0
IsIssuerOf holds None None = Unit {0}
IsIssuerOf holds None (Some t) = ⊥
IsIssuerOf holds (Some name) None = ⊥
IsIssuerOf holds (Some name) (Some t) = IsIssuer holds name (Ok t)

-- the revocation list that an object is
abbrev pub list_from : Object → Result CrlParts Fault
list_from (Certificate c) = Err NoList
list_from (Crl l) = Ok l
list_from (Manifest m) = Err NoList
list_from (Roa r) = Err NoList
list_from (Aspa a) = Err NoList
list_from (Checklist o) = Err NoList
list_from (TrustAnchorKey o) = Err NoList
list_from (Ghostbusters o) = Err NoList
list_from (SignedObject o) = Err NoList
list_from (OtherCertificate c) = Err NoList

-- the same of an object that holds, or doesn't for this fault
abbrev pub list_or : Object → Option Fault → Result CrlParts Fault
list_or x None = list_from x
list_or x (Some fault) = Err fault

-- the same of what was found; or why there is none
abbrev pub list_in : Finding → Result CrlParts Fault
list_in (Ok found) = list_or found.object found.fault
list_in (Err fault) = Err fault

-- what is found in the file of this name, as of a list of this issuer that holds at the moment: the issuer has signed
-- it, it names the issuer and its key, and the moment is between its updates (RFC 5280 6.3.3)
abbrev pub IsList : Holds → List ℕ → TbsParts → Option DateTime → Result CrlParts Fault → Type 0
IsList holds name issuer moment list =
    (finding : Finding) × IfSome (holds name) (λ source. Finds (list_terms issuer moment) source finding)
    × (list_in finding ≡ list)

-- the issuer's list in the file of this name; without a name, or an issuer, there is none
abbrev pub IsListOf : Holds → Option (List ℕ) → Option TbsParts → Option DateTime → Option CrlParts → Type 0
IsListOf holds name None moment list = list ≡ None
IsListOf holds None (Some issuer) moment list = list ≡ None
IsListOf holds (Some name) (Some issuer) moment None = ⊥
IsListOf holds (Some name) (Some issuer) moment (Some l) = IsList holds name issuer moment (Ok l)

-- objects are checked against what is asked for
pub record AreRequirements (holds : Holds) (clock : Clock) (a : Asked) (terms : TermParts) : Type 0 where
  pub inspection : terms.inspection ≡ a.inspection
  pub issuer : IsIssuerOf holds a.issuer terms.issuer
  pub revocations : IsListOf holds a.list terms.issuer terms.moment terms.revocations
  pub moment : IsMoment clock a.moment terms.moment

-- the clock has no moment; or the word is that of none, and how the program is used
abbrev pub wrong_moment_text : List ℕ → List ℕ
wrong_moment_text word =
    if is_now word then codes "rpkicert: --at now: the clock has no moment of the years 0 to 9999\n"
    else codes "rpkicert: --at "
    ++ line word (codes "not a moment such as 2026-11-28T12:00:00Z, nor now") ++ usage_text

-- the file of this name has no issuer, or no list of it, and why
abbrev pub wrong_issuer_text : List ℕ → Fault → List ℕ
wrong_issuer_text name fault = codes "rpkicert: " ++ line name (fault_text fault)

-- Why nothing is shown: the word names no moment; or it names one, and the file has no certificate; or it has one, and
-- another has no list of it; or allocation failed.
pub data IsDenied (holds : Holds) (clock : Clock) (a : Asked) (text : List ℕ) : Type 0 where
  WrongMoment : (word : List ℕ) → a.moment ≡ Some word → NamesNoMoment clock word → text ≡ wrong_moment_text word
      → IsDenied holds clock a text
  WrongIssuer : (name : List ℕ) → (fault : Fault) → (moment : Option DateTime) → a.issuer ≡ Some name
      → IsMoment clock a.moment moment → IsIssuer holds name (Err fault) → text ≡ wrong_issuer_text name fault
      → IsDenied holds clock a text
  WrongList : (name : List ℕ) → (issuer : TbsParts) → (fault : Fault) → (moment : Option DateTime)
      → a.list ≡ Some name → IsMoment clock a.moment moment → IsIssuerOf holds a.issuer (Some issuer)
      → IsList holds name issuer moment (Err fault) → text ≡ wrong_issuer_text name fault → IsDenied holds clock a text
  NoMemory : text ≡ memory_text → IsDenied holds clock a text

-- ---- the run

-- what is seen of the file of this name, where it is known what files hold
abbrev pub Sees : Holds → (check : Bool) → Form → TermParts → List ℕ → OutputParts → Type 0
Sees holds check form terms name s = IfSome (holds name) (λ source. IsSeenOf check form terms name source s)

-- The run of what is asked for: of the files, checked against the terms; or nothing but why there are none, with the
-- status 2.
pub data IsRunOf (holds : Holds) (clock : Clock) (old new : World) (status : ℕ) (a : Asked) : Type 0 where
  Held : (terms : TermParts) → AreRequirements holds clock a terms
      → IsRun (Sees holds a.check a.form terms) a.files old new status
      → IsRunOf holds clock old new status a
  Denied : (text : List ℕ) → IsDenied holds clock a text → Complains old new text status
      → IsRunOf holds clock old new status a

-- the run of the files, checked against these terms
abbrev pub RunsOver : Holds → World → World → ℕ → Asked → TermParts → Type 0
RunsOver holds old new status a terms = IsRun (Sees holds a.check a.form terms) a.files old new status

-- nothing is shown, this text is told, or that allocation failed, and the status is 2
pub record IsDeniedBy (old new : World) (status : ℕ) (text : List ℕ) : Type 0 where
  pub said : List ℕ
  pub either : (said ≡ text) ⊎ (said ≡ memory_text)
  pub told : Complains old new said status

-- the run of the files, checked against this issuer and its list; or why that is none
abbrev pub RunsAgainst : Holds → World → World → ℕ → Asked → TbsParts → Option DateTime
    → (name : List ℕ) → Result CrlParts Fault → Type 0
RunsAgainst holds old new status a issuer moment name (Ok l) =
    RunsOver holds old new status a (term_parts a.inspection (Some issuer) (Some l) moment)
RunsAgainst holds old new status a issuer moment name (Err fault) =
    IsDeniedBy old new status (wrong_issuer_text name fault)

-- the same of the list in the file of this name; without one against this issuer alone
abbrev pub RunsListed : Holds → World → World → ℕ → Asked → TbsParts → Option DateTime → Option (List ℕ)
    → Type 0
RunsListed holds old new status a issuer moment None =
    RunsOver holds old new status a (term_parts a.inspection (Some issuer) None moment)
RunsListed holds old new status a issuer moment (Some name) =
    (list : Result CrlParts Fault) × IsList holds name issuer moment list
    × RunsAgainst holds old new status a issuer moment name list

-- the run of the files, checked against this issuer, and its list, where one is asked for; or why it is none
abbrev pub RunsBy : Holds → World → World → ℕ → Asked → (name : List ℕ) → Option DateTime → Result TbsParts Fault
    → Type 0
RunsBy holds old new status a name moment (Ok t) = RunsListed holds old new status a t moment a.list
RunsBy holds old new status a name moment (Err fault) = IsDeniedBy old new status (wrong_issuer_text name fault)

-- what there is by each of these names is known
abbrev pub AreKnown : Holds → List (List ℕ) → Type 0
AreKnown holds names = All (λ name. IsSome (holds name)) names

-- what the clock has is known, where the word is `now`
abbrev pub IsClockKnown : Clock → List ℕ → Type 0
IsClockKnown clock word = is_now word ≡ true → IsSome clock

-- what there is by the names of the issuer and its list, if there are such, and of the files is known, and what the
-- clock has, where its moment is asked for
pub record IsKnown (holds : Holds) (clock : Clock) (a : Asked) : Type 0 where
  pub issuer : IfSome a.issuer (λ name. IsSome (holds name))
  pub list : IfSome a.list (λ name. IsSome (holds name))
  pub moment : IfSome a.moment (IsClockKnown clock)
  pub files : AreKnown holds a.files

-- each run of what is asked for that ends with the status 0 writes these texts, to the output and to the faults
abbrev pub EndsWellWith : Holds → Clock → Asked → (output said : List ℕ) → Type 0
EndsWellWith holds clock a output said =
    (old new : World) → IsRunOf holds clock old new 0 a → Writes old new output said
