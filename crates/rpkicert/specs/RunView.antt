-- What clauses see of a run over files.
use denote.Bor.{Bor}
use Rattle.std.specs.Option.{option_copied}
use Rattle.std.specs.Prelude.{◌≡◌, ℕ, true, List, Option, Result, Ok, IfOk}
use Rattle.jiff.specs.Types.{DateTime}
use Rattle.rpki_cert.specs.Cert.{TbsParts}
use Rattle.rpki_cli.specs.World.{World}
use Rattle.rpki_crl.specs.Crl.{CrlParts}
use Rattle.rpkicert.specs.declared.outcome.Outcome.{Outcome}
use Rattle.rpkicert.specs.declared.request.Request.{Request}
use Rattle.rpkicert.specs.declared.requirements.Requirements.{Requirements}
use Rattle.rpkicert.specs.OutcomeView.{finding_of, found_of}
use Rattle.rpkicert.specs.declared.fault.Fault.{Fault}
use Rattle.rpkicert.specs.Request.{Asked}
use Rattle.rpkicert.specs.RequestView.{asked_of}
use Rattle.rpkicert.specs.Moment.{Clock, IsMoment}
use Rattle.rpkicert.specs.Run.{Holds, IsRunOf, RunsOver, RunsBy, RunsListed, RunsAgainst, issuer_in, list_in}
use Rattle.rpkicert.specs.Requirements.{term_parts}
use Rattle.rpkicert.specs.RequirementsView.{terms_of}
use Rattle.rpkicert.specs.Under.{Lists, IsRunUnder}

-- over files whose objects are checked against these terms
abbrev pub RunsOn : Holds → World → World → ℕ → Request → Requirements → Type 0
RunsOn holds old new status r terms = RunsOver holds old new status (asked_of r) (terms_of terms)

-- to the profile that is asked for, and to this issuer, this list and this moment
abbrev pub RunsTo : Holds → World → World → ℕ → Request → Option (Bor TbsParts)
    → Option (Bor CrlParts) → Option DateTime → Type 0
RunsTo holds old new status r issuer revocations moment =
    RunsOver holds old new status (asked_of r)
    (term_parts r.inspection (option_copied issuer) (option_copied revocations) moment)

-- to this issuer, and the list that is asked for, if one is
abbrev pub RunsWith : Holds → World → World → ℕ → Request → TbsParts → Option DateTime → Type 0
RunsWith holds old new status r issuer moment =
    RunsListed holds old new status (asked_of r) issuer moment (asked_of r).list

-- to this issuer, and what was found in the file of this name, as its list
abbrev pub RunsFound : Holds → World → World → ℕ → Request → TbsParts → Option DateTime
    → (name : List ℕ) → Result Outcome Fault → Type 0
RunsFound holds old new status r issuer moment name finding =
    RunsAgainst holds old new status (asked_of r) issuer moment name (list_in (finding_of finding))

-- to what was found in the file of this name, as an issuer
abbrev pub RunsOf : Holds → World → World → ℕ → Request → (name : List ℕ) → Option DateTime
    → Outcome → Type 0
RunsOf holds old new status r name moment found =
    RunsBy holds old new status (asked_of r) name moment (issuer_in (Ok (found_of found)))

-- at this moment, where it is the one that is asked for
abbrev pub RunsAt : Holds → Clock → World → World → ℕ → Request → Option DateTime → Type 0
RunsAt holds clock old new status r moment =
    IsMoment clock (asked_of r).moment moment → IsRunOf holds clock old new status (asked_of r)

-- of what is asked for, with the files in folders, by what these sources have
abbrev pub RunsUnder : {S : Type 0} → (S → Lists) → (S → Holds) → (S → Clock) → S
    → World → World → ℕ → Asked → Type 0
RunsUnder lists holds clock s old new status a =
    IsRunUnder (lists s) (holds s) (clock s) old new status a

-- the same, where those in folders are asked for, and there is memory for their names
abbrev pub RunsBelow : {S E : Type 0} → (S → Lists) → (S → Holds) → (S → Clock) → S
    → World → World → Result ℕ E → Request → Type 0
RunsBelow lists holds clock s old new result r =
    r.recursive ≡ true
    → IfOk result (λ status. IsRunUnder (lists s) (holds s) (clock s) old new status (asked_of r))
