-- What clauses see of a run.
use Rattle.rpki.specs.Checkers.{Models}
use Rattle.std.specs.Prelude.{ℕ, List, Option}
use Rattle.jiff.specs.Types.{DateTime}
use Rattle.rpki_payloads.specs.Payloads.{PayloadParts}
use Rattle.rpkivalid.specs.declared.denial.Denial.{Denial}
use Rattle.rpkivalid.specs.declared.request.Request.{Request}
use Rattle.rpkivalid.specs.declared.run.Ran.{Ran}
use Rattle.rpkivalid.specs.declared.run.Written.{Written}
use Rattle.rpkivalid.specs.declared.shown.Shown.{Shown}
use Rattle.rpkivalid.specs.declared.shown.Unchanged.{Unchanged}
use Rattle.rpkivalid.specs.Denying.{IsDenial, IsUnfound}
use Rattle.rpkivalid.specs.Found.{basis_with}
use Rattle.rpkivalid.specs.Locators.{Holds}
use Rattle.rpkivalid.specs.Request.{Asked}
use Rattle.rpkivalid.specs.RequestView.{asked_of}
use Rattle.rpkivalid.specs.Run.{AreMetrics, IsRunOf, IsUnwritten, IsWritten, RanParts}
use Rattle.rpkivalid.specs.Run.{Complains, Gives, SaysWhy}
use Rattle.rpkivalid.specs.Shown.{IsShown, IsUnchanged, ShownParts}

abbrev pub ran_by : Ran → RanParts
ran_by r = record { text = r.text.items; metrics = r.metrics.items; report = r.report.items; status = r.status }

abbrev pub shown_by : Shown → ShownParts
shown_by s = record {
  payloads = s.payloads.items;
  lines = s.report.items;
  all = s.have_anchors;
  some = s.has_anchor;
}

-- a text is given, and no other
abbrev pub GivesBy : (text : List ℕ) → Ran → Type 0
GivesBy text ran = Gives text (ran_by ran)

-- this is told, and nothing is given
abbrev pub ComplainsBy : (report : List ℕ) → Ran → Type 0
ComplainsBy report ran = Complains report (ran_by ran)

-- these lines are told, and why nothing is written
abbrev pub SaysWhyBy : (lines : List ℕ) → Denial → Request → Ran → Type 0
SaysWhyBy lines d request ran = SaysWhy lines d (asked_of request) (ran_by ran)

-- why there are no such locators or local exceptions
abbrev pub IsUnfoundBy : Holds → Request → Denial → Type 0
IsUnfoundBy holds request d = IsUnfound holds (asked_of request) d

-- why nothing is written, before anything is found
abbrev pub Denies : Holds → Option (Option DateTime) → Request → Denial → Type 0
Denies holds clock request d = IsDenial holds clock (asked_of request) d

-- why what is found is not written
abbrev pub IsUnwrittenBy : Option (Option DateTime) → Request → Shown → Denial → Type 0
IsUnwrittenBy clock request shown d = IsUnwritten clock (asked_of request) (shown_by shown) d

-- the text of payloads and their metrics
pub record IsWrittenBy (clock : Option (Option DateTime)) (request : Request) (shown : List PayloadParts)
    (written : Written) : Type 0 where
  pub text : IsWritten clock (asked_of request) shown written.text.items
  pub metrics : AreMetrics clock (asked_of request).metrics shown written.metrics.items

module _ {X : Type 0} (models : Models X) (provider : X) (holds : Holds)
  where
    -- what is found under the locators that are asked for, and the local exceptions
    abbrev pub UnchangedBy : DateTime → ℕ → Request → Unchanged → Type 0
    UnchangedBy at depth request u =
        IsUnchanged (basis_with models provider request.strictness at depth) holds (asked_of request)
        u.found.payloads.items u.local.items u.found.report.items u.found.have_anchors

    -- the former with the latter
    abbrev pub ShowsBy : DateTime → ℕ → Request → Shown → Type 0
    ShowsBy at depth request s =
        IsShown (basis_with models provider request.strictness at depth) holds (asked_of request)
        (shown_by s)

    -- the run of a request, by a provider's signatures and digests
    abbrev pub RunsOf : Option (Option DateTime) → Request → Ran → Type 0
    RunsOf clock request ran =
        IsRunOf (basis_with models provider request.strictness) holds clock (asked_of request)
        (ran_by ran)

    -- that of what is asked
    abbrev pub RunsAs : Option (Option DateTime) → Asked → Ran → Type 0
    RunsAs clock a ran = IsRunOf (basis_with models provider a.strictness) holds clock a (ran_by ran)
